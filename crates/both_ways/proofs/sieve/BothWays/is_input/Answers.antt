use Rattle.std.proofs.Common.{◌∙◌, ◌∷◌, Bool, ap, if◌then◌else◌, sym}
use Rattle.std.specs.Prelude.{is_none}
use Rattle.both_ways.specs.Sieve.{seen_of, taken}
use Rattle.both_ways.proofs.Causes.{as_none, of_event, taken_for}
use Rattle.endpoint_core.specs.Kept.{state_of}
use Rattle.both_ways.proofs.sieve.BothWays.is_input.Goals as goal

pub returns-clause-answer : goal.returns-clause-answer
returns-clause-answer c = λ changes.
    let s = seen_of c.args.self.now (state_of c.args.endpoint.now).bridges.settings changes in
    as_none c.cause.result c.is_none.result c.is_none.ensures ∙ ap is_none (c.cause.ensures.answer changes) ∙ of_event s c.args.event.now

pub returns-clause-taken : goal.returns-clause-taken
returns-clause-taken c = λ changes next es is.
    let k = seen_of c.cause.new.self next changes in
    let e = c.args.event.now in
    taken_for c.args.self.now c.cause.new.self (state_of c.args.endpoint.now).bridges.settings next changes e es c.cause.result
    (c.cause.ensures.answer changes) (c.cause.ensures.behind changes) is
    ∙ ap (λ (q : Bool). if q then e ∷ taken k es else taken k es) (sym (as_none c.cause.result c.is_none.result c.is_none.ensures))
