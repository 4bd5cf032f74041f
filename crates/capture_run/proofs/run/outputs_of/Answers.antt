use Rattle.std.proofs.Common.{◌∙◌, ap, subst, map}
use Rattle.overlay.specs.declared.settings.change.TimedChange.{TimedChange}
use Rattle.timeline.specs.Order.{IsRising}
use Rattle.endpoint_core.specs.Opened.{settings_told}
use Rattle.capture_run.specs.Writing.{with_cuts}
use Rattle.capture_run.proofs.Growing.{outputs_grown}
use Rattle.capture_run.proofs.run.outputs_of.Goals as goal

pub returns : goal.returns
returns c =
    let changes = map (λ (t : TimedChange). t.change) c.args.changes.now in
    let rising = subst (IsRising 0) c.events.ensures.events c.events.ensures.rising in
    c.in_ok-put_cuts.ensures
    ∙ ap (λ o. with_cuts o c.cuts.result.now) c.in_ok-put_events.ensures
    ∙ rw (c.in_ok-endpoint.ensures, c.in_ok-outputs.ensures, c.events.ensures.events, c.cuts.ensures) (outputs_grown (settings_told c.args.settings) changes c.args.ports c.args.timeline.now rising)
