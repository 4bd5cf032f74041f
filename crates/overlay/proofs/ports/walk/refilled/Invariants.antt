use Rattle.std.proofs.Common.{◌≡◌, ◌<◌, ◌*◌, ℕ, false}
use Rattle.overlay.specs.Bits.{is_member_in}
use Rattle.overlay.proofs.ports.walk.refilled.Given as goal

abbrev pub invariant-loop-column : goal.invariant-loop-column
invariant-loop-column l = (p : ℕ) → l.position.after < p → p < l.column * 64 → is_member_in l.words l.vid p ≡ false
