use Rattle.std.proofs.Common.{◌≡◌, ◌∙◌, ℕ, true, sym, ap, subst, Option, Some, None, Result, IfOk}
use Rattle.std.specs.Prelude.{is_some}
use Rattle.std.specs.Option.{option_and_then, ok_or}
use Rattle.wire.specs.declared.ip_udp.addr.Tunnel.{Tunnel}
use Rattle.overlay.specs.Overlay.{Overlay, segment_at, tunnel_of, tunnel_at}
use Rattle.overlay.specs.declared.underlay.segment.Segment.{Segment}
use Rattle.endpoint_core.specs.declared.state.fault.ChangeFault.{ChangeFault}
use Rattle.endpoint_core.specs.Settings.{kind_named}
use Rattle.endpoint_core.proofs.SoundLemmas.{kind-there}
use Rattle.endpoint_core.proofs.state.parts.Parts.kind_named.Goals as goal

-- a tunnel of the kind that was named is there
there : (S : Overlay) (vid : ℕ) (segment : Segment) (named : Option Tunnel) (why : ChangeFault) (o : Option Tunnel) → segment_at S vid ≡ Some segment → o ≡ kind_named segment.tunnels named
    → IfOk (ok_or o why) (λ kind. is_some (tunnel_at S vid kind) ≡ true)
there S vid segment named why None here is = tt
there S vid segment named why (Some kind) here is =
    ap (λ (o : Option Segment). is_some (option_and_then (λ h. tunnel_of h kind) o)) here
    ∙ kind-there segment.tunnels named kind (sym is)

pub returns-clause-tunnel : goal.returns-clause-tunnel
returns-clause-tunnel g c =
    subst (λ (r : Result Tunnel ChangeFault). IfOk r (λ kind. is_some (tunnel_at c.args.self.now.under c.args.vid kind) ≡ true)) (sym c.ok_or.ensures.value)
    (there c.args.self.now.under c.args.vid c.segment.result.now c.args.tunnel _ c.kind_of.result c.segment.ensures c.kind_of.ensures)
