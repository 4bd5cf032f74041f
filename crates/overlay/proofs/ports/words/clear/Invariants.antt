use Rattle.std.proofs.Common.{◌≡◌, ◌%◌, ◌/◌, ◌&&◌, ℕ, length, cond, eqb, ltb, get_or}
use Rattle.overlay.proofs.ports.words.clear.Given as goal

abbrev pub invariant-loop-column : goal.invariant-loop-column
invariant-loop-column l =
    (length l.words ≡ length l.fn.words)
    × ((q : ℕ) → get_or l.words q 0 ≡ cond (eqb (q % 8192) l.vid && ltb (q / 8192) l.column) 0 (get_or l.fn.words q 0))
