use Rattle.std.proofs.Common.{◌≡◌, drop}
use Rattle.capture_run.specs.Writing.{seen, with_cuts}
use Rattle.capture_run.proofs.run.put_cuts.Given as goal

-- with what is left put too, it is all
abbrev pub invariant-loop-cut : goal.invariant-loop-cut
invariant-loop-cut l = with_cuts (seen l.outputs) (drop l.cut-index l.cuts) ≡ with_cuts (seen l.fn.outputs) l.cuts
