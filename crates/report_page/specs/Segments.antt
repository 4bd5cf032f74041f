-- What happened in each segment. It states no standard.
use Rattle.std.specs.Prelude.{ℕ, ◌+◌, ◌%◌, ◌==◌, if◌then◌else◌, List, [], codes, decimal}
use Rattle.report_counts.specs.Rows.{segment_of}
use Rattle.report_counts.specs.declared.counts.ReportCounts.{ReportCounts}
use Rattle.report_page.specs.declared.segments.TheConstants.{SEGMENTS_HEAD, SEGMENTS_END}
use Rattle.report_page.specs.declared.series.Kind.TheVariants.{Events}
use Rattle.report_page.specs.OverTime.{number_cell}
use Rattle.report_page.specs.Picture.{small_bars_cell}
use Rattle.report_page.specs.Texts.{◌then◌, each}

-- the word for a segment: its VID, or that there is none
unfoldable pub segment_word : ℕ → List ℕ
segment_word vid = if vid == 0 then codes "none" else decimal vid

-- the segments in order: the VIDs rising, and none behind them
abbrev pub segment_at : ℕ → ℕ
segment_at place = (place + 1) % 4095

-- the row of a segment to which something came
unfoldable pub segment_row : ReportCounts → ℕ → List ℕ
segment_row c vid =
    let counts = segment_of c.segments vid in
    if counts.events == 0 then []
    else codes "<tr><th scope=\"row\">" then segment_word vid then codes "</th>" then number_cell counts.events
    then number_cell counts.sent then number_cell counts.dropped then small_bars_cell (codes "a") c (Events vid) then codes "</tr>\n"

-- the table
unfoldable pub segments_text : ReportCounts → List ℕ
segments_text c = SEGMENTS_HEAD.now then each (λ place. segment_row c (segment_at place)) 4095 then SEGMENTS_END.now
