use Rattle.std.proofs.Common.{◌≡◌, ◌-◌, ◌<◌, ◌≤◌, ℕ, false, drop, length}
use Rattle.tunnel_traffic.specs.Parts.{IsLine, begins}
use Rattle.tunnel_traffic.proofs.told.parting.parted.Given as goal

-- none of the lines so far is such a line, and a line begins here, or the text ends
abbrev pub invariant-loop-at : goal.invariant-loop-at
invariant-loop-at l = record {
  inside : l.at ≤ length l.text;
  line : l.at < length l.text → IsLine l.text l.at;
  first : (k : ℕ) → k < l.at → IsLine l.text k → begins (drop k l.text) ≡ false;
}

abbrev pub decreases-loop-at : goal.decreases-loop-at
decreases-loop-at l = length l.text - l.at
