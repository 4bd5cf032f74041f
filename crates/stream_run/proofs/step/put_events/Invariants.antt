use Rattle.std.proofs.Common.{◌≡◌, length}
use Rattle.endpoint_core.specs.Kept.{state_of}
use Rattle.stream_run.specs.Sieved.{GoesBy, asked, taken_by}
use Rattle.stream_run.specs.Steps.{run_at}
use Rattle.stream_run.specs.Waiting.{IsOutOrAll}
use Rattle.stream_run.proofs.Running.{HasShown}
use Rattle.stream_run.proofs.step.put_events.Given as goal

abbrev pub invariant-loop-count : goal.invariant-loop-count
invariant-loop-count g l = record {
  run : HasShown l.part.segments.now (taken_by g.S.Sieve.taken l.part.changes.now) (GoesBy g.S.Sieve.goes l.part.changes.now) g.T.Watch.sees l.part.changes.now
      (run_at l.initial.captures.ports.items l.initial.captures.underlay l.initial.taker.turns.items (state_of l.initial.taker.endpoint) 0 l.initial.outputs)
      (run_at l.captures.ports.items l.captures.underlay l.taker.turns.items (state_of l.taker.endpoint) l.taker.scratch.number l.outputs)
      l._count (asked l.initial.sieve (state_of l.initial.taker.endpoint).bridges.settings) (asked l.sieve (state_of l.taker.endpoint).bridges.settings) l.initial.watch l.watch;
  out : IsOutOrAll (g.S.Sieve.all l.sieve) l.captures.may_wait l.outputs;
  still : l.captures.may_wait ≡ l.initial.captures.may_wait;
  many : length l.captures.ports.items ≡ length l.initial.captures.ports.items;
}
