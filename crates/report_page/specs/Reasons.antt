-- Reasons by their numbers: their names, what they mean, and which were met most. It states no standard.
use Rattle.std.specs.Prelude.{ℕ, ◌+◌, ◌-◌, ◌%◌, List, [], map, slice_get, slice_index, slice_index_or, Option, Some, None}
use Rattle.std.specs.Borrow.{Bor}
use Rattle.wire.specs.Reason.{name_of}
use Rattle.wire.specs.declared.ether.reason.Reason.{Reason}
use Rattle.wire.specs.declared.ether.reasons.TheConstants.{REASONS}
use Rattle.report_counts.specs.declared.counts.ReportCounts.{ReportCounts}
use Rattle.report_page.specs.declared.reasons.TheConstants.{SENTENCES}
use Rattle.report_page.specs.Order.{largest}

-- the number of the reason of a place from 0
abbrev pub reason_at : ℕ → ℕ
reason_at place = place % 40 + 1

-- the places of the reasons that were met, over all segments: that which was met most first, and of two met as often that of the
-- lower number
unfoldable pub reasons_in_order : ReportCounts → List ℕ
reasons_in_order c = largest (λ place. slice_index c.reasons.all (reason_at place)) 40

-- the text of a constant
abbrev pub constant_text : record { now : List ℕ } → List ℕ
constant_text text = text.now

-- the text that a reference of the code tells
abbrev pub told_text : Bor (List ℕ) → List ℕ
told_text text = text.now

-- what the reason of a number means
unfoldable pub sentence_of : ℕ → List ℕ
sentence_of number = slice_index_or (map constant_text SENTENCES) (number - 1) []

-- the name of the reason of a number; of none of them nothing
abbrev pub name_by : Option Reason → List ℕ
name_by (Some reason) = name_of reason
name_by None = []

unfoldable pub reason_name : ℕ → List ℕ
reason_name number = name_by (slice_get REASONS (number - 1))
