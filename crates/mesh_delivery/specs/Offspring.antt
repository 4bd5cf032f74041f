-- What the frames that leave in a full mesh owe to the frame that came in. It states no standard.
use Rattle.std.specs.Prelude.{◌≡◌, ℕ, ◌==◌, ◌&&◌, Bool, false, Option, Some, None}
use Rattle.std.specs.Option.{option_map}
use Rattle.wire.specs.Frame.{Frame}
use Rattle.wire.specs.declared.ip_udp.addr.Tunnel.{Tunnel}
use Rattle.filter_db.specs.declared.place.Place.{Place}
use Rattle.filter_db.specs.declared.place.Place.TheVariants.{Local, Remote}
use Rattle.overlay.specs.declared.ports.member.Egress.{Egress}
use Rattle.overlay.specs.Ports.{egress_at}
use Rattle.overlay.specs.declared.underlay.settings.Underlay.{Underlay}
use Rattle.overlay.specs.Overlay.{tunnel_at}
use Rattle.overlay.specs.UnderlaySettings.{is_own}
use Rattle.encapsulate.specs.Emission.{local_text}
use Rattle.endpoint_core.specs.Settings.{Settings}
use Rattle.mesh_delivery.specs.Mesh.{Flying, Left}

-- offspring of the local frame of this number that left at this port of this endpoint
abbrev pub is_left : ℕ → ℕ → ℕ → Left → Bool
is_left number endpoint port x = x.origin.number == number && (x.endpoint == endpoint && x.port == port)

-- the VNI of a segment's tunnel of a kind
abbrev pub vni_at : Settings → ℕ → Tunnel → Option ℕ
vni_at S vid kind = option_map (λ t. t.vni) (tunnel_at S.overlay vid kind)

-- in its own segment at its own endpoint; or in one with the tunnel kind and VNI that the packet was sent with that brought it
abbrev pub IsInSegment : Left → Option Flying → Type 0
IsInSegment x None = (x.endpoint ≡ x.origin.endpoint) × (x.vid ≡ x.origin.vid)
IsInSegment x (Some y) =
    (vni : ℕ) × (y.vid ≡ x.origin.vid) × (vni_at y.sender y.vid y.kind ≡ Some vni) × (vni_at x.settings x.vid y.kind ≡ Some vni)

-- what left is the text of a frame, as it leaves by that member port of the segment; it has the destination, the source and
-- the body of the frame that came in, and left elsewhere than that came in
pub record IsOffspring (x : Left) : Type 0 where
  pub frame : Frame
  pub egress : Egress
  pub member : egress_at x.settings.ports x.vid x.port ≡ Some egress
  pub octets : x.octets ≡ local_text x.vid egress frame
  pub dst : frame.dst ≡ x.origin.frame.dst
  pub src : frame.src ≡ x.origin.frame.src
  pub body : frame.body ≡ x.origin.frame.body
  pub not_back : x.endpoint ≡ x.origin.endpoint → x.port ≡ x.origin.port → ⊥
  pub in_segment : IsInSegment x x.by

-- ---- one step

-- a place is a local port
abbrev pub IsLocal : Place → Type 0
IsLocal (Local port) = Unit {0}
IsLocal (Remote kind addr) = ⊥

-- a remote place whose address an endpoint owns
abbrev pub is_remote_of : Underlay → Place → Bool
is_remote_of U (Local port) = false
is_remote_of U (Remote kind addr) = is_own U addr
