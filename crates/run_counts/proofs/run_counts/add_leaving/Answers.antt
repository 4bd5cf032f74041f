use Rattle.std.proofs.Common.{◌∙◌, ap}
use Rattle.filter_db.specs.declared.place.Place.{Place}
use Rattle.timeline.specs.declared.source.Tap.{Tap}
use Rattle.endpoint_core.specs.Decision.{Sent}
use Rattle.endpoint_core.specs.Kept.{state_of}
use Rattle.endpoint_core.specs.Step.{sent_at}
use Rattle.run_counts.specs.Keeping.{flow_in}
use Rattle.run_counts.specs.Totals.{at_tap}
use Rattle.run_counts.specs.declared.flow.Flows.{Flows}
use Rattle.run_counts.proofs.Tallies.{leaves_none, leaves_one, sized, unsized}
use Rattle.run_counts.proofs.run_counts.add_leaving.Goals as goal
use Rattle.run_counts.proofs.run_counts.add_leaving.Goals.{in-Ok, in_default}

pub loop-place-preserved : goal.loop-place-preserved
loop-place-preserved c tap sizes h =
    let f : Place → Sent = sent_at (state_of c.args.endpoint.now).bridges.settings c.args.came.now.vid c.args.came.now.frame in
    let i = c.loop-place.place-index in
    let so = c.loop-place.invariant tap sizes h in
    elim c.match-size_at.branch [
      | in-Ok w ↦
          ap (λ (flows : Flows). flow_in flows tap) w.flows-is
          ∙ leaves_one f c.args.places.now i _ tap w.tap_of.result sizes w.in-Ok.size c.loop-place.flows w.add.new.self c.loop-place-test.true so w.add.ensures
          (ap (λ (here : Tap). at_tap tap here w.in-Ok.size) w.tap_of.ensures ∙ sized tap (f _) c.size_at.result w.in-Ok.size w.in-Ok.is c.size_at.ensures)
      | in_default w ↦
          ap (λ (flows : Flows). flow_in flows tap) w.flows-is
          ∙ leaves_none f c.args.places.now i _ tap sizes c.loop-place.flows c.loop-place-test.true so (unsized tap (f _) c.size_at.result w.in_default.field-0 w.in_default.is c.size_at.ensures)
    ]
