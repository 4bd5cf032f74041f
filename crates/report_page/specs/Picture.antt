-- Pictures of series (SVG 2): bars, two series of bars one above the other, and lines. It states no standard of its own.
use Rattle.std.specs.Prelude.{ℕ, List, codes, decimal}
use Rattle.report_counts.specs.declared.counts.ReportCounts.{ReportCounts}
use Rattle.report_counts.specs.declared.mark.Stretch.{Stretch}
use Rattle.report_page.specs.declared.series.Kind.{Kind}
use Rattle.report_page.specs.Moment.{moment_text}
use Rattle.report_page.specs.Path.{bar_text, height_of, point_text}
use Rattle.report_page.specs.Series.{greatest, number_at, sum_of}
use Rattle.report_page.specs.Texts.{◌then◌, each}

-- the numbers of a series
abbrev pub numbers_of : ReportCounts → Kind → (ℕ → ℕ)
numbers_of c kind = λ span. number_at c kind span

-- the numbers of two series together
abbrev pub sums_of : ReportCounts → Kind → Kind → (ℕ → ℕ)
sums_of c lower upper = λ span. sum_of (number_at c lower span) (number_at c upper span)

-- the bars of numbers, so high as they are of the greatest
abbrev pub bars_text : ReportCounts → Kind → ℕ → List ℕ
bars_text c kind most = each (λ span. bar_text span 0 (height_of most (number_at c kind span))) 64

-- the bars of numbers above those of others
abbrev pub upper_text : ReportCounts → Kind → Kind → ℕ → List ℕ
upper_text c lower upper most =
    each (λ span. bar_text span (height_of most (number_at c lower span)) (height_of most (number_at c upper span))) 64

-- the line of numbers
abbrev pub line_text : ReportCounts → Kind → ℕ → List ℕ
line_text c kind most = each (λ span. point_text span (height_of most (number_at c kind span))) 64

-- the numbers themselves
abbrev pub list_text : ReportCounts → Kind → List ℕ
list_text c kind = each (λ span. decimal (number_at c kind span) then codes " ") 64

-- what a picture begins with: its class, its title, and what it shows
abbrev pub picture_head : List ℕ → List ℕ → List ℕ → List ℕ
picture_head class title shown =
    codes "<svg class=\"" then class then codes "\" viewBox=\"0 0 640 1000\" preserveAspectRatio=\"none\" role=\"img\"><title>" then title
    then codes "</title><desc>" then shown then codes "</desc>"

-- a path of this colour
abbrev pub path_text : List ℕ → List ℕ → List ℕ
path_text colour shape = codes "<path class=\"" then colour then codes "\" d=\"" then shape then codes "\"/>"

-- a line through these points
abbrev pub polyline_text : List ℕ → List ℕ
polyline_text points = codes "<polyline points=\"" then points then codes "\"/>"

-- what stands above a picture, the greatest of its numbers, and below it, the first and the last moment
abbrev pub scale_text : ℕ → List ℕ
scale_text most = codes "<p class=\"scale\">" then decimal most then codes " at most</p>\n"

abbrev pub axis_text : Stretch → List ℕ
axis_text stretch =
    codes "</svg>\n<p class=\"axis\"><span>" then moment_text stretch.first then codes "</span> <span>" then moment_text stretch.last
    then codes "</span></p>"

-- a picture of bars
unfoldable pub bars_picture : List ℕ → List ℕ → ReportCounts → Kind → List ℕ
bars_picture title colour c kind =
    let most = greatest (numbers_of c kind) 64 in
    scale_text most then picture_head (codes "bars") title (codes "Bars, one for each of the 64 spans.")
    then path_text colour (bars_text c kind most) then axis_text c.stretch

-- a picture of two series, one above the other
unfoldable pub stacked_picture : List ℕ → ReportCounts → Kind → Kind → List ℕ
stacked_picture title c lower upper =
    let most = greatest (sums_of c lower upper) 64 in
    scale_text most
    then picture_head (codes "bars") title (codes "Bars of two series, one above the other, for each of the 64 spans.")
    then path_text (codes "a") (bars_text c lower most) then path_text (codes "b") (upper_text c lower upper most)
    then axis_text c.stretch

-- what a small picture begins with, and what it ends with: its numbers
abbrev pub spark_head : ReportCounts → Kind → List ℕ
spark_head c kind =
    codes "<td><svg class=\"spark\" viewBox=\"0 0 640 1000\" preserveAspectRatio=\"none\" role=\"img\"><title>Over time</title><desc>"
    then list_text c kind then codes "</desc>"

abbrev pub spark_end : ReportCounts → Kind → List ℕ
spark_end c kind = codes "</svg><details><summary>Numbers</summary><p>" then list_text c kind then codes "</p></details></td>"

-- the cell of a small picture of a line, and of its numbers
unfoldable pub spark_cell : ReportCounts → Kind → List ℕ
spark_cell c kind =
    spark_head c kind then polyline_text (line_text c kind (greatest (numbers_of c kind) 64)) then spark_end c kind

-- the cell of a small picture of bars, and of its numbers
unfoldable pub small_bars_cell : List ℕ → ReportCounts → Kind → List ℕ
small_bars_cell colour c kind =
    spark_head c kind then path_text colour (bars_text c kind (greatest (numbers_of c kind) 64)) then spark_end c kind
