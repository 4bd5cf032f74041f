use Rattle.std.proofs.Common.{◌∙◌, ap, sym}
use Rattle.both_ways.specs.Sieve.{cause_then, happened, seen_of, with_settings}
use Rattle.endpoint_core.specs.Kept.{state_of}
use Rattle.stream_run.specs.Sieved.{settings_behind}
use Rattle.timeline.specs.declared.event.Happening.{Happening}
use Rattle.both_ways.proofs.sieve.BothWays.cause.Goals as goal

-- a change is made
pub returns-in-Change-clause-answer : goal.returns-in-Change-clause-answer
returns-in-Change-clause-answer c = λ changes.
    let s = seen_of c.args.self.now (state_of c.args.endpoint.now).bridges.settings changes in
    c.cause_of_change.ensures.answer ∙ sym (ap (λ (h : Happening). cause_then s c.args.event.now.moment h) c.in-Change.is)

pub returns-in-Change-clause-behind : goal.returns-in-Change-clause-behind
returns-in-Change-clause-behind c = λ changes.
    let settings = (state_of c.args.endpoint.now).bridges.settings in
    let s = seen_of c.args.self.now settings changes in
    let e = c.args.event.now in
    c.cause_of_change.ensures.behind (settings_behind changes e.happening settings) changes settings
    ∙ ap (λ (h : Happening). with_settings s (settings_behind changes h settings)) c.in-Change.is
    ∙ sym (ap (λ (h : Happening). happened s e.moment e.number h) c.in-Change.is)

-- a record changes no settings
pub returns-in-Record-clause-answer : goal.returns-in-Record-clause-answer
returns-in-Record-clause-answer c = λ changes.
    let s = seen_of c.args.self.now (state_of c.args.endpoint.now).bridges.settings changes in
    c.cause_of_record.ensures.answer changes ∙ sym (ap (λ (h : Happening). cause_then s c.args.event.now.moment h) c.in-Record.is)

pub returns-in-Record-clause-behind : goal.returns-in-Record-clause-behind
returns-in-Record-clause-behind c = λ changes.
    let settings = (state_of c.args.endpoint.now).bridges.settings in
    let s = seen_of c.args.self.now settings changes in
    let e = c.args.event.now in
    ap (λ (h : Happening). seen_of c.cause_of_record.new.self (settings_behind changes h settings) changes) c.in-Record.is
    ∙ c.cause_of_record.ensures.behind changes
    ∙ sym (ap (λ (h : Happening). happened s e.moment e.number h) c.in-Record.is)
