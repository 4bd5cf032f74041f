use Rattle.std.proofs.Common.{◌≡◌}
use Rattle.stream_run.proofs.Opened.{OpenSoFar}
use Rattle.stream_run.proofs.opening.open_all.Given as goal

abbrev pub invariant-loop-index : goal.invariant-loop-index
invariant-loop-index g l = record {
  so_far : OpenSoFar l.index l.initial.captures.ports.items l.initial.captures.underlay l.captures.ports.items l.captures.underlay;
  still : l.captures.may_wait ≡ l.initial.captures.may_wait;
}
