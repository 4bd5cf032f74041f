use Rattle.std.proofs.Common.{◌≡◌, ℕ, ◌<◌, false, get_or}
use Rattle.record_match.specs.Kept.{told}
use Rattle.record_match.specs.Match.{Record}
use Rattle.compare_reports.specs.Doubled.{is_same_record}
use Rattle.compare_reports.proofs.recent.Recent.has.Given as goal

-- none so far is the same
abbrev pub invariant-loop-i : goal.invariant-loop-i
invariant-loop-i l = record {
  before : (k : ℕ) (d : Record) → k < l.i → is_same_record (told l.received) (get_or l.self.latest k d) ≡ false;
}
