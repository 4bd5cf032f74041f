use Rattle.std.proofs.Common.{◌∙◌, [], ap}
use Rattle.endpoint_core.specs.Kept.{state_of}
use Rattle.timeline.specs.declared.event.Happening.{Happening}
use Rattle.both_ways.proofs.Causes.{input_taken, no_cause, other_taken}
use Rattle.both_ways.specs.Sieve.{cause_then, seen_of}
use Rattle.both_ways.proofs.audited.AuditedSieve.takes.Goals as goal

pub returns-in-Some-clause-taken : goal.returns-in-Some-clause-taken
returns-in-Some-clause-taken g c = λ changes next es is.
    other_taken c.args.self.now.both c.cause.new.self (state_of c.args.endpoint.now).bridges.settings next changes c.args.event.now es c.in-Some.cause
    (c.in-Some.ensures.answer changes) (c.in-Some.ensures.behind changes) is

pub returns-in-Some-clause-change : goal.returns-in-Some-clause-change
returns-in-Some-clause-change g c = λ index is.
    let s = seen_of c.args.self.now.both (state_of c.args.endpoint.now).bridges.settings [] in
    absurd (no_cause (c.in-Some.ensures.answer [] ∙ ap (λ (h : Happening). cause_then s c.args.event.now.moment h) is))

pub returns-in-None-clause-taken : goal.returns-in-None-clause-taken
returns-in-None-clause-taken g c = λ changes next es is.
    input_taken c.args.self.now.both c.cause.new.self (state_of c.args.endpoint.now).bridges.settings next changes c.args.event.now es
    (c.in-None.ensures.answer changes) (c.in-None.ensures.behind changes) is
