use Rattle.std.proofs.Common.{◌≡◌, ◌∙◌, sym, true, None}
use Rattle.std.specs.Option.{unwrap_or}
use Rattle.std.specs.FinMap.{empty, get}
use Rattle.overlay.specs.Ports.{members_at}
use Rattle.tunnel_learning.specs.Bridge.{config_of, is_up_at}
use Rattle.tunnel_learning.proofs.BridgeLemmas.{egress-members}
use Rattle.event_story.proofs.BridgeLemmas.{no-member}
use Rattle.event_story.proofs.flood.shut_port.Goals as goal

pub returns-in-None : goal.returns-in-None
returns-in-None c =
    let bridge = c.args.bridge.now in
    let members = members_at bridge.ports.now bridge.vid in
    let up : is_up_at (config_of bridge).up c.args.port ≡ true = sym c.is_up.ensures.value ∙ c.if-not-is_up.false in
    let none : get (unwrap_or members empty) c.args.port ≡ None = sym (egress-members members c.args.port) ∙ sym c.in-None.ensures in
    no-member c.args.port (is_up_at (config_of bridge).up c.args.port) (get (unwrap_or members empty) c.args.port) up none
