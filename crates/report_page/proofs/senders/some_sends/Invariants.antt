use Rattle.std.proofs.Common.{◌≡◌, ℕ, ◌<◌, ◌≤◌, ◌-◌, false, length, get_or}
use Rattle.report_page.specs.Senders.{sends}
use Rattle.report_page.proofs.senders.some_sends.Given as goal

-- it is none of those that were seen
abbrev pub invariant-loop-place : goal.invariant-loop-place
invariant-loop-place l = record {
  none : (k : ℕ) → k < l.at
      → sends l.there l.wanted.segment.now l.wanted.source.now l.wanted.place.now (get_or l.senders k l.wanted) ≡ false;
  inside : l.at ≤ length l.senders;
}

abbrev pub decreases-loop-place : goal.decreases-loop-place
decreases-loop-place l = length l.senders - l.at
