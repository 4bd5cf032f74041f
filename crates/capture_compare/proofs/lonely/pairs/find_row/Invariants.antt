use Rattle.std.proofs.Common.{◌≡◌, ℕ, ◌<◌, false}
use Rattle.capture_compare.specs.Differing.{is_such}
use Rattle.capture_compare.specs.Finding.{row_at}
use Rattle.capture_compare.proofs.lonely.pairs.find_row.Given as goal

-- none before this one is of such pairs
abbrev pub invariant-loop-i : goal.invariant-loop-i
invariant-loop-i l = record {
  before : (k : ℕ) → k < l.i → is_such (row_at l.pair l.rows k).first l.pair ≡ false;
}
