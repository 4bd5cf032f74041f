-- Who talks to whom: sources and outlets, the largest of each. It states no standard of its own (SVG 2).
--     rank_of, shown_rank      how many are larger, and the rank of one that is shown
--     matrix_text      the picture and the table
use Rattle.std.specs.Prelude.{ℕ, ◌+◌, ◌*◌, ◌/◌, ◌%◌, ◌==◌, ◌&&◌, ◌||◌, nat_lt, if◌then◌else◌, Bool, cond, List, [], codes, decimal}
use Rattle.std.specs.Prelude.{min, slice_index, Option, Some, None}
use Rattle.std.specs.Option.{option_map_or}
use Rattle.report_counts.specs.Outlets.{name_of}
use Rattle.report_counts.specs.Rows.{pair_of}
use Rattle.report_counts.specs.declared.counts.ReportCounts.{ReportCounts}
use Rattle.report_counts.specs.declared.pairs.Pair.{Pair}
use Rattle.report_page.specs.declared.ranks.Side.{Side}
use Rattle.report_page.specs.declared.ranks.Side.TheVariants.{Sources, Outlets}
use Rattle.report_page.specs.declared.shown.Ranked.{Ranked}
use Rattle.report_page.specs.declared.matrix.TheConstants.{PAIRS_HEAD, PAIRS_PICTURE, PAIRS_SHOWN, PAIRS_TABLE, PAIRS_END}
use Rattle.report_page.specs.Escaped.{escaped}
use Rattle.report_page.specs.OverTime.{number_cell}
use Rattle.report_page.specs.Path.{height_of}
use Rattle.report_page.specs.Places.{source_word}
use Rattle.report_page.specs.Series.{greatest, together}
use Rattle.report_page.specs.Texts.{◌then◌, each}

-- ---- the largest

-- the number of the source of a place from 0 on: the ports, and the underlay behind them
abbrev pub source_of : ℕ → ℕ
source_of place = place % 256 + 1

-- how much came from the source of a place, the ports rising and then the underlay, or left at the outlet of a place
abbrev pub size_of : ReportCounts → Side → ℕ → ℕ
size_of c Sources place = slice_index c.sources.events (source_of place)
size_of c Outlets place = slice_index c.outlets.frames place

-- how many places a side has
abbrev pub places_of : Side → ℕ
places_of Sources = 256
places_of Outlets = 513

-- the one at a place is larger than that at another, or as large and in front of it
abbrev pub is_before : (ℕ → ℕ) → ℕ → ℕ → Bool
is_before size other place =
    nat_lt (size place) (size other) || (size other == size place && nat_lt other place)

-- how many are before the one at a place
abbrev pub rank_of : ReportCounts → Side → ℕ → ℕ
rank_of c side place = together (λ other. cond (is_before (size_of c side) other place) 1 0) (places_of side)

-- how many are there at all
abbrev pub some_of : ReportCounts → Side → ℕ
some_of c side = together (λ place. cond (size_of c side place == 0) 0 1) (places_of side)

-- the rank of one that is shown: there is something of it, and it is among the forty largest
abbrev pub below_forty : ℕ → Option ℕ
below_forty rank = if nat_lt rank 40 then Some rank else None

unfoldable pub shown_rank : ReportCounts → Side → ℕ → Option ℕ
shown_rank c side place = if size_of c side place == 0 then None else below_forty (rank_of c side place)

-- the text of the one at a place, where it is shown
abbrev pub shown_at : ReportCounts → Side → (Ranked → List ℕ) → ℕ → List ℕ
shown_at c side text place = option_map_or (λ rank. text (record { place = place; rank = rank })) (shown_rank c side place) []

-- ---- the picture

-- what came from the source of a place and left at an outlet
abbrev pub pair_at : ReportCounts → ℕ → ℕ → Pair
pair_at c source outlet = pair_of c.pairs (source_of source) outlet

-- the most frames of a source and an outlet
unfoldable pub most_frames : ReportCounts → ℕ
most_frames c = greatest (λ source. greatest (λ outlet. (pair_at c source outlet).frames) 513) 256

-- a square at a place, so dark in hundredths
unfoldable pub square_box : ℕ → ℕ → ℕ → List ℕ
square_box x y shade =
    codes "<rect class=\"a\" x=\"" then decimal x then codes "\" y=\"" then decimal y
    then codes "\" width=\"11\" height=\"11\" fill-opacity=\"" then decimal shade then codes "%\">"

-- what a square shows
unfoldable pub square_title : ℕ → List ℕ → ℕ → List ℕ
square_title source outlet frames =
    codes "<title>" then source_word source then codes " to " then escaped outlet then codes ": " then decimal frames
    then codes "</title></rect>\n"

-- how dark so many frames are
abbrev pub shade_of : ℕ → ℕ → ℕ
shade_of most frames = 10 + height_of most frames * 9 / 100

-- the square of a source and an outlet, where there were frames
unfoldable pub square_of : ReportCounts → ℕ → ℕ → ℕ → ℕ → ℕ → List ℕ
square_of c most source row outlet column =
    let frames = (pair_at c source outlet).frames in
    if frames == 0 then []
    else square_box (40 + column * 12) (160 + row * 12) (shade_of most frames)
    then square_title (source_of source) (name_of outlet c.outlets.names) frames

-- the squares of a source in a row, each where its outlet is shown
abbrev pub squares_of : ReportCounts → ℕ → ℕ → ℕ → List ℕ
squares_of c most source row = each (shown_at c Outlets (λ outlet. square_of c most source row outlet.place outlet.rank)) 513

-- ---- names

-- the name in front of a row
unfoldable pub row_label : ℕ → ℕ → List ℕ
row_label source row =
    codes "<text x=\"36\" y=\"" then decimal (168 + row * 12) then codes "\" text-anchor=\"end\">" then source_word source
    then codes "</text>\n"

-- the name above a column
unfoldable pub column_label : List ℕ → ℕ → List ℕ
column_label outlet column =
    codes "<text transform=\"translate(" then decimal (48 + column * 12) then codes " 156) rotate(-90)\">" then escaped outlet
    then codes "</text>\n"

-- ---- the table

-- the cells of a source and an outlet
unfoldable pub pair_cells : ℕ → List ℕ → Pair → List ℕ
pair_cells source outlet pair =
    codes "<tr><th scope=\"row\">" then source_word source then codes "</th><td>" then escaped outlet then codes "</td>"
    then number_cell pair.frames then number_cell pair.octets then codes "</tr>\n"

-- their row, where there were frames
unfoldable pub pair_row : ReportCounts → ℕ → ℕ → List ℕ
pair_row c source outlet =
    if (pair_at c source outlet).frames == 0 then []
    else pair_cells (source_of source) (name_of outlet c.outlets.names) (pair_at c source outlet)

-- the rows of a source, each where its outlet is shown
abbrev pub pairs_of : ReportCounts → ℕ → List ℕ
pairs_of c source = each (shown_at c Outlets (λ outlet. pair_row c source outlet.place)) 513

-- ---- all of it

-- how many there are of each, and how many are shown
unfoldable pub pairs_front : ℕ → ℕ → List ℕ
pairs_front sources outlets =
    PAIRS_HEAD.now then decimal sources then codes " sources and " then decimal outlets
    then codes " outlets had frames; of each the forty largest are shown at most, the largest first.</p>\n"

-- how high the picture of so many sources is: there is a row for each that is shown
abbrev pub height_for : ℕ → ℕ
height_for sources = 160 + min sources 40 * 12

unfoldable pub pairs_picture : ReportCounts → ℕ → ℕ → List ℕ
pairs_picture c height most =
    PAIRS_PICTURE.now then decimal height then PAIRS_SHOWN.now
    then each (shown_at c Sources (λ source. row_label (source_of source.place) source.rank)) 256
    then each (shown_at c Outlets (λ outlet. column_label (name_of outlet.place c.outlets.names) outlet.rank)) 513
    then each (shown_at c Sources (λ source. squares_of c most source.place source.rank)) 256

unfoldable pub matrix_text : ReportCounts → List ℕ
matrix_text c =
    pairs_front (some_of c Sources) (some_of c Outlets) then pairs_picture c (height_for (some_of c Sources)) (most_frames c)
    then PAIRS_TABLE.now then each (shown_at c Sources (λ source. pairs_of c source.place)) 256 then PAIRS_END.now
