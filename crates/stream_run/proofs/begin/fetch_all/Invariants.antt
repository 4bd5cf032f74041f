use Rattle.std.proofs.Common.{◌≡◌}
use Rattle.stream_run.proofs.Begun.{FetchedSoFar}
use Rattle.stream_run.proofs.begin.fetch_all.Given as goal

abbrev pub invariant-loop-index : goal.invariant-loop-index
invariant-loop-index g l = record {
  so_far : FetchedSoFar l.changes l.index l.initial.captures.ports.items l.initial.captures.underlay l.initial.turns l.captures.ports.items l.captures.underlay l.turns;
  still : l.captures.may_wait ≡ l.initial.captures.may_wait;
}
