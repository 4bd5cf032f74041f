use Rattle.std.proofs.Common.{add-one}
use Rattle.filter_db.specs.declared.place.Place.{Place}
use Rattle.endpoint_core.specs.Decision.{Sent}
use Rattle.endpoint_core.specs.Kept.{state_of}
use Rattle.endpoint_core.specs.Step.{sent_at}
use Rattle.tunnel_traffic.proofs.Counting.{leaving_more}
use Rattle.tunnel_traffic.proofs.tunnels.count_leaving.Goals as goal

pub loop-place-preserved : goal.loop-place-preserved
loop-place-preserved c =
    let f : Place → Sent = sent_at (state_of c.args.endpoint.now).bridges.settings c.args.came.now.vid c.args.came.now.frame in
    rw (add-one c.loop-place.place-index) (leaving_more f c.args.places.now c.loop-place.place-index _ _ _ _ c.loop-place-test.true c.loop-place.invariant c.count_sent.ensures)
