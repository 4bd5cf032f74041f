-- What a reader wants to know first: what is lacking, and why most was dropped. It states no standard.
use Rattle.std.specs.Prelude.{ℕ, ◌==◌, Bool, true, false, if◌then◌else◌, List, [], codes, decimal, length, take, slice_index}
use Rattle.std.specs.Prelude.{slice_index_or, Option, Some, None}
use Rattle.std.specs.List.{flat_map}
use Rattle.report_counts.specs.declared.counts.ReportCounts.{ReportCounts}
use Rattle.report_page.specs.declared.short.TheConstants.{SHORT_HEAD, PART, NONE_DROPPED, TOP_HEAD, TOP_END, SHORT_END}
use Rattle.report_page.specs.Places.{source_word}
use Rattle.report_page.specs.Reasons.{reason_at, reason_name, reasons_in_order, sentence_of}
use Rattle.report_page.specs.Texts.{◌then◌, each}

-- that the folder is of a part of a run
abbrev pub part_text : Bool → List ℕ
part_text true = PART.now
part_text false = []

-- how many whole records the capture of a source has, where it is cut
abbrev pub cut_of : ReportCounts → ℕ → Option ℕ
cut_of c source = slice_index_or c.cuts source None

-- that it is cut
abbrev pub cut_text : ℕ → Option ℕ → List ℕ
cut_text source (Some records) =
    codes "<p>The capture of <code>" then source_word source then codes "</code> is cut: it ends within a record, behind "
    then decimal records then codes " whole ones.</p>\n"
cut_text source None = []

-- a reason: its number and name, how often it was met, and what it means
unfoldable pub top_cells : ℕ → List ℕ → ℕ → List ℕ → List ℕ
top_cells number name count sentence =
    codes "<li><strong>" then decimal number then codes " " then name then codes ": " then decimal count then codes "</strong><br>"
    then sentence then codes "</li>\n"

unfoldable pub top_row : ReportCounts → ℕ → List ℕ
top_row c number = top_cells number (reason_name number) (slice_index c.reasons.all number) (sentence_of number)

-- the first three of reasons in this order, or that there are none
abbrev pub top_text : ReportCounts → List ℕ → List ℕ
top_text c order =
    if length order == 0 then NONE_DROPPED.now
    else TOP_HEAD.now then flat_map (λ place. top_row c (reason_at place)) (take 3 order) then TOP_END.now

-- all of it
unfoldable pub short_text : ReportCounts → Bool → List ℕ
short_text c is_part =
    SHORT_HEAD.now then part_text is_part then each (λ source. cut_text source (cut_of c source)) 257 then top_text c (reasons_in_order c)
    then SHORT_END.now
