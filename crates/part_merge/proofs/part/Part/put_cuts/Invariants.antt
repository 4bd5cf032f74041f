use Rattle.std.proofs.Common.{◌≡◌, ℕ, List, [], length}
use Rattle.part_merge.specs.Blame.{part_health}
use Rattle.part_merge.specs.Coming.{Holds}
use Rattle.part_merge.specs.Firsts.{IsNone}
use Rattle.part_merge.specs.Numbered.{AddsCuts}
use Rattle.part_merge.proofs.Ending.{CutsSoFar}
use Rattle.part_merge.proofs.part.Part.put_cuts.Given as goal

-- some lines were put, and the others are left
abbrev pub invariant-loop-count : goal.invariant-loop-count
invariant-loop-count g l = record {
  ports : length l.self.ports ≡ length l.initial.self.ports;
  cuts : (count : ℕ) (cuts : List (List ℕ)) → Holds count [] cuts l.initial.self → CutsSoFar count cuts l._count l.self (g.W.Output.written l.initial.decisions) (g.W.Output.written l.decisions);
  put : AddsCuts (g.W.Output.written l.initial.decisions) (g.W.Output.written l.decisions);
  over : IsNone l.initial.self.coming → IsNone l.self.coming;
  reads : part_health l.self ≡ part_health l.initial.self;
  writes : g.W.Output.failures l.decisions ≡ g.W.Output.failures l.initial.decisions;
}
