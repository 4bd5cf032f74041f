use Rattle.filter_db.specs.declared.place.Place.TheVariants.{Local}
use Rattle.endpoint_core.specs.Kept.{state_of}
use Rattle.endpoint_core.specs.Step.{has_two_tunnels, sent_at}
use Rattle.run_view.specs.View.{left_items}
use Rattle.run_view.proofs.Telling.{outlet_told}
use Rattle.run_view.proofs.output.ViewOutput.write_outcomes.Goals as goal

pub loop-place-preserved : goal.loop-place-preserved
loop-place-preserved g c =
    let S = (state_of c.args.endpoint.now).bridges.settings in
    let vid = c.args.came.now.vid in
    outlet_told c.args.self.now c.loop-place.self c.write_left.new.self (left_items c.args.ports c.args.seen.now (has_two_tunnels S.overlay vid))
    (sent_at S vid c.args.came.now.frame) c.args.places.now c.loop-place.place-index (Local 0) c.loop-place-test.true c.loop-place.invariant c.write_left.ensures
