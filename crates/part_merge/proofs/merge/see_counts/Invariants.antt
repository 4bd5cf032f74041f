use Rattle.std.proofs.Common.{◌≡◌, ◌<◌, ℕ, length, slice_index_or}
use Rattle.part_merge.specs.Coming.{OpenPart}
use Rattle.part_merge.proofs.merge.see_counts.Given as goal

abbrev pub invariant-loop-index : goal.invariant-loop-index
invariant-loop-index g l = (s : OpenPart) (k : ℕ) → k < l.index → length (slice_index_or l.parts k s).ports ≡ l.count
