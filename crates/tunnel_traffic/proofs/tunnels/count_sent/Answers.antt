use Rattle.std.proofs.Common.{◌∙◌, ap}
use Rattle.endpoint_core.specs.Decision.{Sent}
use Rattle.endpoint_core.specs.Kept.{state_of}
use Rattle.endpoint_core.specs.Step.{sent_at}
use Rattle.tunnel_traffic.specs.TrafficRows.{counted_all}
use Rattle.tunnel_traffic.specs.declared.rows.traffic.Traffic.{Traffic}
use Rattle.tunnel_traffic.specs.Tunnels.{rows_at}
use Rattle.tunnel_traffic.proofs.Counting.{local_rows, sized_rows, unsized_rows}
use Rattle.tunnel_traffic.proofs.tunnels.count_sent.Goals as goal

pub returns-in-Ok : goal.returns-in-Ok
returns-in-Ok c =
    let o : Sent = sent_at (state_of c.args.endpoint.now).bridges.settings c.args.came.now.vid c.args.came.now.frame c.args.place.now in
    c.count_at.ensures
    ∙ ap (λ (t : Traffic). counted_all c.args.remotes.now (rows_at c.args.place.now t)) c.one_left.ensures
    ∙ ap (counted_all c.args.remotes.now) (sized_rows o c.size_at.result c.in-Ok.size c.in-Ok.is c.size_at.ensures)

pub returns-in_default-size_at : goal.returns-in_default-size_at
returns-in_default-size_at c =
    let o : Sent = sent_at (state_of c.args.endpoint.now).bridges.settings c.args.came.now.vid c.args.came.now.frame c.args.place.now in
    ap (counted_all c.args.remotes.now) (unsized_rows o c.size_at.result c.in_default-size_at.field-0 c.in_default-size_at.is c.size_at.ensures)

pub returns-in-Local : goal.returns-in-Local
returns-in-Local c =
    let o : Sent = sent_at (state_of c.args.endpoint.now).bridges.settings c.args.came.now.vid c.args.came.now.frame c.args.place.now in
    ap (counted_all c.args.remotes.now) (local_rows o _ c.in-Local.is)
