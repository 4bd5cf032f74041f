use Rattle.std.proofs.Common.{◌≡◌, ◌∙◌, ◌&&◌, ap, sym, true, Bool, Option}
use Rattle.std.specs.Option.{is_some, unwrap_or}
use Rattle.std.specs.FinMap.{empty, get}
use Rattle.overlay.specs.Ports.{members_at}
use Rattle.overlay.specs.declared.ports.member.Egress.{Egress}
use Rattle.tunnel_learning.specs.Bridge.{config_of, is_up_at}
use Rattle.tunnel_learning.proofs.BridgeLemmas.{egress-members}
use Rattle.tunnel_learning.proofs.bridge.Bridge.serves.Goals as goal

pub returns : goal.returns
returns c =
    let bridge = c.args.self.now in
    let egress = get (unwrap_or (members_at bridge.ports.now bridge.vid) empty) c.args.port in
    let up : is_up_at (config_of bridge).up c.args.port ≡ true = sym c.is_up.ensures.value ∙ c.if-not-is_up.false in
    c.is_some.ensures
    ∙ ap (λ (o : Option Egress). is_some o) (c.egress.ensures ∙ egress-members (members_at bridge.ports.now bridge.vid) c.args.port)
    ∙ ap (λ (b : Bool). b && is_some egress) (sym up)
