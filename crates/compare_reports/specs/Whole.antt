-- Two captures, compared to their ends and told. It states no standard.
--     lines_of     the lines of what was counted
--     IsPrinted    they were printed, and the table behind them
--     IsWhole      all that is told of two captures
use Rattle.std.specs.Prelude.{◌≡◌, ℕ, not, if◌then◌else◌, List, Option, None, Some, Ok}
use Rattle.std.specs.List.{FoldsTo}
use Rattle.timeline.specs.declared.source.Tap.{Tap}
use Rattle.pcap.specs.Source.{Stream, ends_cut}
use Rattle.record_match.specs.Settled.{Shows}
use Rattle.record_match.specs.declared.clock.Clock.{Clock}
use Rattle.capture_compare.specs.Cut.{cut_end}
use Rattle.capture_compare.specs.declared.aside.Aside.{Aside}
use Rattle.capture_compare.specs.declared.carried.key.Manner.{Manner}
use Rattle.capture_compare.specs.declared.fault.Side.{Side}
use Rattle.capture_compare.specs.declared.fault.Side.TheVariants as sides
use Rattle.capture_compare.specs.declared.lines.counts.Counts.{Counts}
use Rattle.compare_reports.specs.Outcome.{IsOutcome}
use Rattle.compare_reports.specs.Printed.{place_text}
use Rattle.compare_reports.specs.Prints.{Prints, unless}
use Rattle.compare_reports.specs.Reported.{IsReported}
use Rattle.compare_reports.specs.Told.{PrintsTable, differences_texts}
use Rattle.compare_reports.specs.declared.paired.Outcome.{Outcome}
use Rattle.compare_reports.specs.declared.place_lines.PlaceLines.{PlaceLines}
use Rattle.compare_reports.specs.declared.report.Report.{Report}

-- the lines of what was counted, where so many came again, and so many are behind another
abbrev pub lines_of : Option Tap → Outcome → ℕ → ℕ → Option Aside → PlaceLines
lines_of at o doubled behind aside = record {
  at = at;
  counts = o.counts;
  doubled = doubled;
  cut = o.cut;
  behind = behind;
  aside = aside;
}

-- how many were left aside, where some may be
abbrev pub aside_of : Manner → Outcome → Option Aside
aside_of m o = if m.ignores_reserved then Some o.aside else None

-- the line of a capture that was read to its end and ends within a record
abbrev pub end_text : Option Tap → Side → Stream → Option (List ℕ)
end_text at side s = unless (not (ends_cut s.standing)) (cut_end at side)

module _ {P : Type 0} (prints : P → List ℕ → P → Type 0) where
  -- those of captures that end within a record were printed
  pub record PrintsEnds (at : Option Tap) (sent received : Stream) (old new : P) : Type 0 where
    pub middle : P
    pub of_sent : Prints prints old (end_text at sides.Sent sent) middle
    pub of_received : Prints prints middle (end_text at sides.Received received) new

module _ {P E : Type 0} (prints : P → List ℕ → P → Type 0) where
  -- each record that is of one capture alone had been told, and then the lines of a place were printed, and behind them what of near
  -- ones differs, and its table
  pub record IsPrinted (old : Report P E) (lines : PlaceLines) (new : Report P E) : Type 0 where
    pub middle : P
    pub behind : P
    pub all_told : old.failure ≡ None
    pub place : prints old.printer (place_text lines) middle
    pub differences : FoldsTo (Prints prints) middle (differences_texts lines.at old.differences) behind
    pub table : PrintsTable prints lines.at old.table behind new.printer

module _ {P E : Type 0} (prints : P → List ℕ → P → Type 0) (finds : P → ℕ → Option ℕ → P → Type 0) where
  -- a report was told what became of each record of two captures, of which this was counted
  abbrev pub IsShown : Manner → Clock → Stream → Stream → Outcome → Report P E → Report P E → Type 0
  IsShown manner clock sent received outcome old new =
      Shows (λ a fact b. IsReported prints finds fact a b) old new (λ log. (sent_text received_text : List ℕ)
      → sent.supply.rest ≡ Some sent_text → received.supply.rest ≡ Some received_text
      → IsOutcome manner clock sent_text received_text log outcome)

  -- two captures, which stood so before and stand so behind, were compared to their ends, the report was told what became of each
  -- record, and its lines were printed: those of what was counted, of what of near ones differs, of the table, and of captures that
  -- end within a record
  pub record IsWhole (manner : Manner) (sent received sent_end received_end : Stream) (old new : Report P E) (counts : Counts) : Type 0
    where
      pub told : Report P E
      pub printed : Report P E
      pub outcome : Outcome
      pub shown : IsShown manner old.asked.clock sent received outcome old told
      pub ended : outcome.end ≡ Ok tt
      pub counts_are : counts ≡ outcome.counts
      pub lines : IsPrinted prints told (lines_of old.asked.at outcome told.recent.doubled told.order.behind (aside_of manner outcome)) printed
      pub ends : PrintsEnds prints old.asked.at sent_end received_end printed.printer new.printer
