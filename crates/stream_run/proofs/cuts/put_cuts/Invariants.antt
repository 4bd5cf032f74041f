use Rattle.std.proofs.Common.{◌+◌, drop}
use Rattle.capture_run.specs.Outputs.{Outputs}
use Rattle.stream_run.specs.Cuts.{cuts_at, cuts_from}
use Rattle.stream_run.specs.Stage.{Drains, StandAt}
use Rattle.stream_run.proofs.Cutting.{CutSoFar}
use Rattle.stream_run.proofs.cuts.put_cuts.Given as goal

-- with what is left put too, it is all
abbrev pub invariant-loop-i : goal.invariant-loop-i
invariant-loop-i g l =
    (start : Drains) (o : Outputs) → StandAt start l.initial.outputs o
    → CutSoFar start l.outputs o (cuts_from (l.i + 1) (drop l.i l.captures.ports.items) l.captures.underlay l.turns) (cuts_at l.captures.ports.items l.captures.underlay l.turns)
