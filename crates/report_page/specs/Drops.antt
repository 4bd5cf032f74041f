-- What was dropped and refused, and why. It states no standard.
use Rattle.std.specs.Prelude.{ℕ, ◌==◌, if◌then◌else◌, List, [], codes, decimal, slice_index}
use Rattle.std.specs.List.{flat_map}
use Rattle.endpoint_core.specs.Fault.{name_of as cause_name, number_of as cause_number}
use Rattle.endpoint_core.specs.declared.state.fault.ChangeFault.{ChangeFault}
use Rattle.endpoint_core.specs.declared.state.fault.ChangeFault.TheVariants.{FloodFull, TableFull, PoolFull, SegmentsFull}
use Rattle.report_counts.specs.Tables.{count_in}
use Rattle.report_counts.specs.declared.counts.ReportCounts.{ReportCounts}
use Rattle.endpoint_core.specs.declared.state.faults.TheConstants.{CHANGE_FAULTS}
use Rattle.report_page.specs.declared.drops.TheConstants.{DROPS_HEAD, REASONS_HEAD, CAUSES_HEAD, DROPS_END}
use Rattle.report_page.specs.declared.series.Kind.TheVariants as kinds
use Rattle.report_page.specs.Order.{largest}
use Rattle.report_page.specs.OverTime.{number_cell}
use Rattle.report_page.specs.Picture.{small_bars_cell}
use Rattle.report_page.specs.Reasons.{reason_at, reason_name, reasons_in_order, sentence_of}
use Rattle.report_page.specs.Segments.{segment_at, segment_word}
use Rattle.report_page.specs.Series.{sum_of}
use Rattle.report_page.specs.Texts.{◌then◌}

-- ---- reasons in segments

-- how often a reason was met in a segment: events that were dropped, and outcomes that weren't sent
abbrev pub met : ReportCounts → ℕ → ℕ → ℕ
met c vid reason = sum_of (count_in vid reason c.reasons.dropped) (count_in vid reason c.reasons.unsent)

-- the cells of a reason in a segment
unfoldable pub drop_cells : ℕ → ℕ → List ℕ → ℕ → List ℕ → List ℕ
drop_cells vid number name count sentence =
    codes "<tr><th scope=\"row\">" then segment_word vid then codes "</th>" then number_cell number then codes "<td>" then name
    then codes "</td>" then number_cell count then codes "<td class=\"why\">" then sentence then codes "</td></tr>\n"

-- the row of a reason in a segment
unfoldable pub drop_row : ReportCounts → ℕ → ℕ → List ℕ
drop_row c vid number = drop_cells vid number (reason_name number) (met c vid number) (sentence_of number)

-- the rows of a reason, the segment in which it was met most first, of the forty at most with the most
unfoldable pub reason_drops : ReportCounts → ℕ → List ℕ
reason_drops c number =
    flat_map (λ place. drop_row c (segment_at place) number) (largest (λ place. met c (segment_at place) number) 4095)

-- ---- reasons over time

-- the row of a reason
unfoldable pub reason_row : ReportCounts → ℕ → List ℕ
reason_row c number =
    codes "<tr><th scope=\"row\">" then decimal number then codes " " then reason_name number then codes "</th>"
    then number_cell (slice_index c.reasons.all number) then small_bars_cell (codes "c") c (kinds.Reason number) then codes "</tr>\n"

-- ---- causes

-- what marks a cause that is a limit
abbrev pub limit_mark : ChangeFault → List ℕ
limit_mark FloodFull = codes "<span class=\"limit\">a limit</span>"
limit_mark TableFull = codes "<span class=\"limit\">a limit</span>"
limit_mark PoolFull = codes "<span class=\"limit\">a limit</span>"
limit_mark SegmentsFull = codes "<span class=\"limit\">a limit</span>"
limit_mark other = []

-- the cells of a cause
unfoldable pub cause_cells : ℕ → List ℕ → ℕ → List ℕ → List ℕ
cause_cells number name count mark =
    codes "<tr><th scope=\"row\">" then decimal number then codes " " then name then codes "</th>"
    then number_cell count then codes "<td>" then mark then codes "</td></tr>\n"

-- the row of a cause for which changes were refused
unfoldable pub cause_row : ReportCounts → ChangeFault → List ℕ
cause_row c cause =
    if slice_index c.refused (cause_number cause) == 0 then []
    else cause_cells (cause_number cause) (cause_name cause) (slice_index c.refused (cause_number cause)) (limit_mark cause)

-- ---- all of it

unfoldable pub drops_text : ReportCounts → List ℕ
drops_text c =
    DROPS_HEAD.now then flat_map (λ place. reason_drops c (reason_at place)) (reasons_in_order c)
    then REASONS_HEAD.now then flat_map (λ place. reason_row c (reason_at place)) (reasons_in_order c)
    then CAUSES_HEAD.now then flat_map (cause_row c) CHANGE_FAULTS then DROPS_END.now
