-- The first drop of each reason. It states no standard.
use Rattle.std.specs.Prelude.{ℕ, List, [], codes, decimal, slice_index_or, Option, Some, None}
use Rattle.std.specs.List.{flat_map}
use Rattle.timeline.specs.Words.{source_word}
use Rattle.report_counts.specs.declared.counts.ReportCounts.{ReportCounts}
use Rattle.report_counts.specs.declared.drops.FirstDrop.{FirstDrop}
use Rattle.report_page.specs.declared.first_drops.TheConstants.{FIRST_HEAD, FIRST_END}
use Rattle.report_page.specs.Moment.{moment_text}
use Rattle.report_page.specs.OverTime.{number_cell}
use Rattle.report_page.specs.Reasons.{reason_at, reason_name, reasons_in_order}
use Rattle.report_page.specs.Texts.{◌then◌}

-- a segment, or that there is none
abbrev pub vid_text : Option ℕ → List ℕ
vid_text (Some vid) = decimal vid
vid_text None = codes "none"

-- the record of an event, by its source and its number there
abbrev pub record_word : FirstDrop → List ℕ
record_word d = source_word d.source then codes ":" then decimal d.number

-- the moment of an event
abbrev pub moment_cells : FirstDrop → List ℕ
moment_cells d = codes "<td>" then moment_text d.moment then codes "</td>" then number_cell d.moment

-- the cells of a drop for a reason of this name
unfoldable pub first_cells : FirstDrop → List ℕ → List ℕ
first_cells d name =
    codes "<tr><th scope=\"row\" class=\"n\">" then decimal d.event then codes "</th>" then moment_cells d
    then codes "<td>" then record_word d then codes "</td><td>" then vid_text d.segment then codes "</td><td>" then decimal d.reason
    then codes " " then name then codes "</td><td><code>tep run .. --why " then record_word d then codes "</code></td></tr>\n"

-- the row of a drop, where there is one
abbrev pub first_row : Option FirstDrop → List ℕ
first_row (Some d) = first_cells d (reason_name d.reason)
first_row None = []

-- the first drop of the reason of a place
abbrev pub first_of : ReportCounts → ℕ → Option FirstDrop
first_of c place = slice_index_or c.first_drops (reason_at place) None

-- the table
unfoldable pub first_drops_text : ReportCounts → List ℕ
first_drops_text c = FIRST_HEAD.now then flat_map (λ place. first_row (first_of c place)) (reasons_in_order c) then FIRST_END.now
