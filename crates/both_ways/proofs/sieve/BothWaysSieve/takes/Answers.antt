use Rattle.std.proofs.Common.{◌∙◌, [], ap}
use Rattle.endpoint_core.specs.Kept.{state_of}
use Rattle.timeline.specs.declared.event.Happening.{Happening}
use Rattle.both_ways.specs.Sieve.{happens_in, seen_of}
use Rattle.both_ways.proofs.sieve.BothWaysSieve.takes.Goals as goal

pub returns-clause-change : goal.returns-clause-change
returns-clause-change c = λ index is.
    let s = seen_of c.args.self.now (state_of c.args.endpoint.now).bridges.settings [] in
    c.is_input.ensures.answer [] ∙ ap (λ (h : Happening). happens_in s c.args.event.now.moment h) is
