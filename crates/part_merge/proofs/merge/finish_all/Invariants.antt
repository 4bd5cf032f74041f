use Rattle.std.proofs.Common.{◌≡◌, ◌<◌, ◌≤◌, ℕ, List, length, map, slice_index_or}
use Rattle.part_merge.specs.Blame.{part_health}
use Rattle.part_merge.specs.Coming.{OpenPart}
use Rattle.part_merge.specs.Numbered.{AddsCuts, HaveNoEvent}
use Rattle.part_merge.specs.Whole.{OnlyCuts}
use Rattle.part_merge.specs.declared.coming.Coming.TheVariants as coming
use Rattle.part_merge.proofs.Finishing.{CutsBefore}
use Rattle.part_merge.proofs.merge.finish_all.Given as goal

-- those in front are finished, and the others are as before
abbrev pub invariant-loop-index : goal.invariant-loop-index
invariant-loop-index g l = record {
  others : (s : OpenPart) (k : ℕ) → l.index ≤ k → slice_index_or l.parts k s ≡ slice_index_or l.initial.parts k s;
  same : length l.parts ≡ length l.initial.parts;
  added : (cuts : List (List (List ℕ))) → OnlyCuts l.count cuts l.initial.parts → CutsBefore cuts l.index (g.W.Output.written l.initial.decisions) (g.W.Output.written l.decisions);
  put : AddsCuts (g.W.Output.written l.initial.decisions) (g.W.Output.written l.decisions);
  over : HaveNoEvent l.initial.parts → (s : OpenPart) (k : ℕ) → k < l.index → (slice_index_or l.parts k s).coming ≡ coming.Nothing;
  reads : map part_health l.parts ≡ map part_health l.initial.parts;
  writes : g.W.Output.failures l.decisions ≡ g.W.Output.failures l.initial.decisions;
}
