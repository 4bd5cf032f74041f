-- What always holds of an endpoint's parts. It states no standard.
use Rattle.std.specs.Prelude.{◌≡◌, ℕ, ◌≤◌, Bool, true, ◌&&◌, is_some, Option, Some, None}
use Rattle.std.specs.List.{list_all}
use Rattle.wire.specs.declared.ip_udp.addr.Addr.{Addr}
use Rattle.wire.specs.declared.ip_udp.addr.Tunnel.{Tunnel}
use Rattle.overlay.specs.Flood.{has_family}
use Rattle.filter_db.specs.declared.place.Place.{Place}
use Rattle.filter_db.specs.declared.place.Place.TheVariants.{Local, Remote}
use Rattle.filter_db.specs.Table.{Table, stands}
use Rattle.filter_db.specs.Segment.{Segments, segment_at as table_of}
use Rattle.overlay.specs.Ports.{Ports, has_segment as has_members}
use Rattle.overlay.specs.UnderlaySettings.{own}
use Rattle.overlay.specs.Overlay.{Overlay, has_segment, flood_at, tunnel_at}
use Rattle.endpoint_core.specs.declared.state.parts.Parts.{Parts}

-- a segment can send to this address: it has a tunnel of the kind, and the endpoint an own address of the family
abbrev pub reaches : Overlay → ℕ → Tunnel → Addr → Bool
reaches S vid kind addr = is_some (tunnel_at S vid kind) && has_family (own S.underlay) addr

-- a segment can send to this place
abbrev pub is_reached : Overlay → ℕ → Place → Bool
is_reached S vid (Local port) = true
is_reached S vid (Remote kind addr) = reaches S vid kind addr

-- or there is none
abbrev pub is_reached_if : Overlay → ℕ → Option Place → Bool
is_reached_if S vid None = true
is_reached_if S vid (Some place) = is_reached S vid place

-- all stations of a table stand where its segment can send to
abbrev pub AreReached : Overlay → ℕ → Table → Type 0
AreReached S vid m = (mac : _) → is_reached_if S vid (stands mac m) ≡ true

-- whatever a segment can send to: where all stations of its table stand there before, they do after
abbrev pub StaysReached : Segments → Segments → Type 0
StaysReached old new = (S : Overlay) (vid : ℕ) → AreReached S vid (table_of vid old).entries
    → AreReached S vid (table_of vid new).entries

-- ports, underlay and tables have the same segments, and what these know of remote places they can send to
pub record AreSound (ports : Ports) (overlay : Overlay) (segments : Segments) : Type 0 where
  pub members : (vid : ℕ) → has_members ports vid ≡ is_some (segments vid)
  pub tunnels : (vid : ℕ) → has_segment overlay vid ≡ is_some (segments vid)
  pub vids : (vid : ℕ) → is_some (segments vid) ≡ true → (1 ≤ vid) × (vid ≤ 4094)
  pub flood : (vid : ℕ) → list_all (λ r. reaches overlay vid r.tunnel r.addr) (flood_at overlay vid) ≡ true
  pub tables : (vid : ℕ) → AreReached overlay vid (table_of vid segments).entries

-- the parts of what an endpoint holds agree
abbrev pub IsSound : {T : Type 0} → (T → Segments) → Parts T → Type 0
IsSound segments parts = AreSound parts.ports parts.under (segments parts.tables)
