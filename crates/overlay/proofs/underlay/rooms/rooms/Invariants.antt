use Rattle.std.proofs.Common.{◌≡◌, ◌<◌, ◌||◌, ℕ, None, true, get_or, length}
use Rattle.std.specs.Prelude.{is_some, nat_le}
use Rattle.overlay.proofs.underlay.rooms.rooms.Given as goal

abbrev pub invariant-loop-place : goal.invariant-loop-place
invariant-loop-place l = (length l.rooms.items ≡ l._place) × ((k : ℕ) → k < l._place → (nat_le l.flood 16 || is_some (get_or l.rooms.items k None)) ≡ true)
