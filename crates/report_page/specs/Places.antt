-- What came and left at each place. It states no standard.
use Rattle.std.specs.Prelude.{ℕ, ◌==◌, ◌&&◌, if◌then◌else◌, List, [], codes, decimal, slice_index}
use Rattle.report_counts.specs.Outlets.{name_of, outlet_of}
use Rattle.report_counts.specs.declared.counts.ReportCounts.{ReportCounts}
use Rattle.report_page.specs.declared.places.TheConstants.{CAME_HEAD, LEFT_HEAD, PLACES_END}
use Rattle.report_page.specs.declared.series.Kind.TheVariants.{Arrival, Left}
use Rattle.report_page.specs.Escaped.{escaped}
use Rattle.report_page.specs.OverTime.{number_cell}
use Rattle.report_page.specs.Picture.{spark_cell}
use Rattle.report_page.specs.Texts.{◌then◌, each}

-- the word for a source: 0 for the changes, the number of a port, 256 for the underlay
unfoldable pub source_word : ℕ → List ℕ
source_word source =
    if source == 0 then codes "changes" else (if source == 256 then codes "u" else codes "p" then decimal source)

-- the row of a source of which something came
unfoldable pub came_row : ReportCounts → ℕ → List ℕ
came_row c source =
    if slice_index c.sources.events source == 0 then []
    else codes "<tr><th scope=\"row\">" then source_word source then codes "</th>" then number_cell (slice_index c.sources.events source)
    then spark_cell c (Arrival source) then codes "</tr>\n"

-- the row of an outlet at which something left, or didn't
unfoldable pub left_row : ReportCounts → ℕ → List ℕ
left_row c outlet =
    let counts = outlet_of c.outlets outlet in
    if counts.frames == 0 && counts.faults == 0 then []
    else codes "<tr><th scope=\"row\">" then escaped (name_of outlet c.outlets.names) then codes "</th>" then number_cell counts.frames
    then number_cell counts.octets then number_cell counts.faults then spark_cell c (Left outlet) then codes "</tr>\n"

-- both tables
unfoldable pub places_text : ReportCounts → List ℕ
places_text c = CAME_HEAD.now then each (came_row c) 257 then LEFT_HEAD.now then each (left_row c) 513 then PLACES_END.now
