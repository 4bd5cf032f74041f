use Rattle.std.proofs.Common.{◌≡◌, ◌∙◌, ap, sym, subst, ℕ, ◌<◌, Option, map, length, slice_index_or}
use Rattle.std.proofs.lemmas.Result.{on_ok_weaker}
use Rattle.timeline.specs.Events.{HappensIn}
use Rattle.endpoint_core.specs.Change.{named}
use Rattle.overlay.specs.declared.settings.change.TimedChange.{TimedChange}
use Rattle.endpoint_core.specs.Event.{Input, Asks}
use Rattle.endpoint_core.specs.Kept.{state_of}
use Rattle.endpoint_core.specs.Step.{after, answer}
use Rattle.capture_run.specs.Outputs.{change_at, input_of, named_by}
use Rattle.capture_run.specs.Writing.{seen, with_input}
use Rattle.capture_run.proofs.Changes.{change_there}
use Rattle.capture_run.proofs.step.put_event.Goals.{After-put_change}
use Rattle.capture_run.proofs.step.put_event.Goals as goal

-- the change of this number is the one that is made
there : (c : After-put_change) → change_at (map (λ (t : TimedChange). t.change) c.args.changes.now) c.in-Change.index ≡ (slice_index_or c.args.changes.now c.in-Change.index c.index-changes-index.result).change
there c =
    let bound : c.in-Change.index < length c.args.changes.now =
    subst (HappensIn (length c.args.changes.now) (length (state_of c.args.endpoint.now).bridges.settings.ports.ports) c.args.event.now.moment) c.in-Change.is c.requires.known in
    change_there c.args.changes.now c.in-Change.index c.index-changes-index.result bound

-- so it is what the event asks for
asked : (c : After-put_change) → Asks (slice_index_or c.args.changes.now c.in-Change.index c.index-changes-index.result).change ≡ input_of (map (λ (t : TimedChange). t.change) c.args.changes.now) c.args.event.now.happening
asked c = ap Asks (sym (there c)) ∙ ap (input_of (map (λ (t : TimedChange). t.change) c.args.changes.now)) (sym c.in-Change.is)

pub returns-in-Change-clause-state : goal.returns-in-Change-clause-state
returns-in-Change-clause-state c =
    let step = (goal.at.returns-in-Change-clause-state c).After-put_change in
    c.put_change.ensures.state ∙ ap (λ input. after (state_of c.args.endpoint.now) (record { at = c.args.event.now.moment; input = input })) (asked step)

pub returns-in-Change-clause-outputs : goal.returns-in-Change-clause-outputs
returns-in-Change-clause-outputs c =
    let step = (goal.at.returns-in-Change-clause-outputs c).After-put_change in
    let changes = map (λ (t : TimedChange). t.change) c.args.changes.now in
    let found = slice_index_or c.args.changes.now c.in-Change.index c.index-changes-index.result in
    let names : named found.change ≡ named_by changes c.args.event.now.happening = ap named (sym (there step)) ∙ ap (named_by changes) (sym c.in-Change.is) in
    let told = λ (n : Option ℕ) (input : Input). with_input c.args.scratch.now.number n (seen c.args.outputs.now) c.args.event.now (answer (state_of c.args.endpoint.now) (record { at = c.args.event.now.moment; input = input })) in
    on_ok_weaker c.put_change.result (λ e. e ∙ ap (λ n. told n (Asks found.change)) names ∙ ap (told (named_by changes c.args.event.now.happening)) (asked step)) c.put_change.ensures.outputs
