-- What the layers of a packet are together, and what they have to do with what an endpoint answers.
-- It states no standard.
use Rattle.std.specs.Prelude.{◌≡◌, ℕ, ◌||◌, Bool, true, false, IsTrue, List, length, All, Option, Err}
use Rattle.wire.specs.Octets.{part}
use Rattle.wire.specs.declared.ether.reason.Reason.{Reason}
use Rattle.wire.specs.declared.ether.reason.Reason.TheVariants.{Runt, NotIp, BadIpSum, Fragment, CriticalOption}
use Rattle.packet_layers.specs.Apart.{Span, Head, Apart}
use Rattle.packet_layers.specs.Dissection.{Layers, is_within}
use Rattle.packet_layers.specs.declared.kind.Stop.TheVariants.{At}
use Rattle.overlay.specs.Overlay.{Overlay}
use Rattle.decapsulate.specs.Arrival.{arrival}
use Rattle.packet_layers.specs.declared.kind.HeadKind.{HeadKind}
use Rattle.packet_layers.specs.declared.kind.HeadKind.TheVariants.{Vxlan, Geneve}

-- octets are those of a text from a place on
abbrev pub StandsAt : List ℕ → ℕ → List ℕ → Type 0
StandsAt b place octets = octets ≡ part place (length octets) b

-- each part is the octets of a text at its place
pub record AllStand (b : List ℕ) (a : Apart) : Type 0 where
  pub heads : All (λ (h : Head). StandsAt b h.place h.octets) a.heads
  pub payload : StandsAt b a.payload.place a.payload.octets
  pub tails : All (λ (t : Span). StandsAt b t.place t.octets) a.tails

-- a reason of the layers down to the tunnel header: not for who sent the packet, to whom, or for which segment, nor for
-- the frame in it
abbrev pub is_of_layers : Reason → Bool
is_of_layers reason = is_within Runt Runt reason || is_within NotIp BadIpSum reason || is_within Fragment CriticalOption reason

-- a head of a tunnel
abbrev pub is_tunnel : HeadKind → Bool
is_tunnel Vxlan = true
is_tunnel Geneve = true
is_tunnel _ = false

-- no tunnel header is taken off
abbrev pub HasNoTunnel : Apart → Type 0
HasNoTunnel a = All (λ (h : Head). is_tunnel h.kind ≡ false) a.heads

-- where an endpoint refuses the packet for such a reason, taking it apart stops with it, before any tunnel header
abbrev pub AgreesWithArrival : Overlay → List ℕ → Layers → Type 0
AgreesWithArrival S b layers =
    (vid : Option ℕ) (reason : Reason) → IsTrue (is_of_layers reason)
    → arrival S b ≡ Err (record { segment = vid; reason = reason })
    → (layers.stop ≡ At reason) × HasNoTunnel layers.apart
