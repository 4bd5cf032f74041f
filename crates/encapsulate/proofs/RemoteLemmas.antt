-- The packet of a head from a template.
use Rattle.std.proofs.Common.{◌≡◌, ℕ, Bool, List, [], Option, Some, None, sym, ap, ◌∙◌}
use Rattle.std.specs.Option.{option_map, option_map_or, option_and_then}
use Rattle.std.proofs.lemmas.Option.{none-some, same_Some}
use Rattle.wire.specs.Frame.{Frame}
use Rattle.wire.specs.declared.ip_udp.addr.Addr.{Addr}
use Rattle.wire.specs.declared.ip_udp.addr.Tunnel.{Tunnel}
use Rattle.wire.specs.OuterTemplate.{Fixed}
use Rattle.overlay.specs.declared.underlay.settings.Underlay.{Underlay}
use Rattle.overlay.specs.declared.underlay.tunnels.SegmentTunnel.{SegmentTunnel}
use Rattle.overlay.specs.Heads.{fixed}
use Rattle.overlay.specs.UnderlaySettings.{hop_to}
use Rattle.encapsulate.specs.Flow.{source_port}
use Rattle.encapsulate.specs.Remote.{packet_from}

-- what was written with what the settings tell, of a head that tells t, is what is sent to the address
pub written : (U V : Underlay) (kind : Tunnel) (tunnel : Option SegmentTunnel) (own : Option (List ℕ)) (a : Addr) (computed : Underlay → Bool) (f : Frame) (t : Fixed)
    (hop : List ℕ) (b : Bool) (port : ℕ) (x : List ℕ) (text : List ℕ → Bool → ℕ → Fixed → List ℕ)
    → ((vni : ℕ) (src : List ℕ) → text (hop_to U a) (computed U) (source_port f) (fixed U kind vni src) ≡ packet_from U kind vni src a f)
    → option_and_then (λ s. option_map (fixed U kind s.vni) own) tunnel ≡ Some t
    → V ≡ U → hop ≡ hop_to V a → b ≡ computed V → port ≡ source_port f → x ≡ text hop b port t
    → x ≡ elim tunnel [ Some s ↦ option_map_or (λ src. packet_from U kind s.vni src a f) own [] | None ↦ [] ]
written U V kind None own a computed f t hop b port x text packet there settings hop_is b_is port_is is = absurd (none-some t there)
written U V kind (Some s) None a computed f t hop b port x text packet there settings hop_is b_is port_is is = absurd (none-some t there)
written U V kind (Some s) (Some src) a computed f t hop b port x text packet there settings hop_is b_is port_is is =
    is ∙ ap (λ (h : List ℕ). text h b port t) (hop_is ∙ ap (λ (W : Underlay). hop_to W a) settings)
    ∙ ap (λ (c : Bool). text (hop_to U a) c port t) (b_is ∙ ap computed settings)
    ∙ ap (λ (n : ℕ). text (hop_to U a) (computed U) n t) port_is
    ∙ ap (text (hop_to U a) (computed U) (source_port f)) (sym (same_Some (fixed U kind s.vni src) t there))
    ∙ packet s.vni src
