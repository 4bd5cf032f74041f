use Rattle.std.proofs.Common.{◌≡◌, ◌∙◌, ap, refl, subst, sym}
use Rattle.timeline.specs.declared.event.Happening.{Happening}
use Rattle.endpoint_core.specs.Kept.{state_of}
use Rattle.stream_run.specs.Sights.{IsBrought}
use Rattle.tunnel_traffic.specs.Tunnels.{came_told}
use Rattle.tunnel_traffic.proofs.tunnels.TunnelTrafficWatch.see.Goals as goal

pub returns-in-Change : goal.returns-in-Change
returns-in-Change c =
    let overlay = (state_of c.args.endpoint.now).bridges.settings.overlay in
    subst (λ (h : Happening). c.args.self.now ≡ came_told c.args.self.now overlay h) (sym c.in-Change.is) refl

pub count_record-requires : goal.count_record-requires
count_record-requires c =
    subst (λ (h : Happening). IsBrought (state_of c.args.endpoint.now).bridges.settings h c.args.came.now) c.in-Record.is c.requires

pub returns-in-Record : goal.returns-in-Record
returns-in-Record c =
    let overlay = (state_of c.args.endpoint.now).bridges.settings.overlay in
    c.count_record.ensures ∙ ap (λ (h : Happening). came_told c.args.self.now overlay h) (sym c.in-Record.is)
