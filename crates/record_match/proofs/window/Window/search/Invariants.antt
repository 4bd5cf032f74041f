use Rattle.std.proofs.Common.{◌≡◌, ℕ, ◌+◌, ◌<◌, ◌-◌, false, length, get_or}
use Rattle.record_match.specs.Kept.{told}
use Rattle.record_match.specs.Match.{as_sent, is_met_by}
use Rattle.record_match.proofs.window.Window.search.Given as goal

-- none of those with a lower number is the one that is received
abbrev pub invariant-loop-number : goal.invariant-loop-number
invariant-loop-number l = record {
  low : l.self-inside.gone < l.number;
  none : (k : ℕ) → k < length l.self.held → l.self-inside.gone + k + 1 < l.number → is_met_by l.self.within (told l.received) (get_or l.self.held k (as_sent (told l.received))) ≡ false;
}

abbrev pub decreases-loop-number : goal.decreases-loop-number
decreases-loop-number l = l.last + 1 - l.number
