-- What came, left and was dropped over time. It states no standard.
use Rattle.std.specs.Prelude.{ℕ, ◌*◌, min, List, codes, decimal}
use Rattle.report_counts.specs.Places.{width}
use Rattle.report_counts.specs.Tables.{most}
use Rattle.report_counts.specs.declared.counts.ReportCounts.{ReportCounts}
use Rattle.report_counts.specs.declared.mark.Stretch.{Stretch}
use Rattle.report_page.specs.declared.series.Kind.TheVariants.{All, Arrival}
use Rattle.report_page.specs.declared.series.Parted.TheVariants.{Ports, LocalOutlets, RemoteOutlets, Segments}
use Rattle.report_page.specs.declared.over_time.TheConstants.{TIME_HEAD, CAME_HEAD, LEFT_HEAD, DROPPED_HEAD, SPANS_HEAD, SPANS_END}
use Rattle.report_page.specs.Duration.{duration_text}
use Rattle.report_page.specs.Picture.{bars_picture, stacked_picture}
use Rattle.report_page.specs.Series.{number_at, sum_of}
use Rattle.report_page.specs.Texts.{◌then◌, each}

-- a cell of a number
abbrev pub number_cell : ℕ → List ℕ
number_cell number = codes "<td class=\"n\">" then decimal number then codes "</td>"

-- the moment at which a span begins
abbrev pub begin_of : Stretch → ℕ → ℕ
begin_of stretch span = sum_of stretch.first (min most (span * width stretch))

-- the row of a span: when it begins, and what came, left and was dropped
unfoldable pub span_row : ReportCounts → ℕ → List ℕ
span_row c span =
    codes "<tr><th scope=\"row\">" then decimal span then codes "</th>" then number_cell (begin_of c.stretch span)
    then number_cell (number_at c (All Ports) span) then number_cell (number_at c (Arrival 256) span)
    then number_cell (number_at c (All LocalOutlets) span) then number_cell (number_at c (All RemoteOutlets) span)
    then number_cell (number_at c (All Segments) span) then codes "</tr>\n"

-- three pictures and their numbers
unfoldable pub over_time : ReportCounts → List ℕ
over_time c =
    TIME_HEAD.now then duration_text (width c.stretch) then codes ".</p>\n"
    then CAME_HEAD.now then stacked_picture (codes "What came") c (All Ports) (Arrival 256)
    then LEFT_HEAD.now then stacked_picture (codes "What left") c (All LocalOutlets) (All RemoteOutlets)
    then DROPPED_HEAD.now then bars_picture (codes "What was dropped") (codes "c") c (All Segments)
    then SPANS_HEAD.now then each (span_row c) 64 then SPANS_END.now
