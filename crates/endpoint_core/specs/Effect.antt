-- What changes of the settings do, whatever their kinds (it states no standard).
--     Effect, effect, applied      to the settings in force
--     TableEffect, table_effect, table_applied      to the table of each segment that a change is about
use Rattle.std.specs.Prelude.{ℕ, ◌==◌, Bool, true, false, nat_lt, List, [], ◌∷◌, ◌++◌, if◌then◌else◌, Option, Some, None}
use Rattle.std.specs.Option.{option_map, option_map_or, unwrap_or}
use Rattle.std.specs.FinMap.{empty, len}
use Rattle.wire.specs.declared.ip_udp.addr.Tunnel.{Tunnel}
use Rattle.wire.specs.declared.ip_udp.addr.Tunnel.TheVariants.{Vxlan}
use Rattle.overlay.specs.Flood.{Entries, without}
use Rattle.filter_db.specs.declared.place.Place.{Place}
use Rattle.filter_db.specs.declared.place.Place.TheVariants.{Local, Remote}
use Rattle.filter_db.specs.Table.{Table, nanoseconds, live, fix, unfix, flush_place, flush}
use Rattle.overlay.specs.declared.ports.member.Egress.{Egress}
use Rattle.overlay.specs.Ports.{with_up, with_member}
use Rattle.overlay.specs.Ports as ports
use Rattle.overlay.specs.Overlay.{with_flood}
use Rattle.overlay.specs.Overlay as overlay
use Rattle.overlay.specs.declared.underlay.segment.TunnelRule.{TunnelRule}
use Rattle.overlay.specs.declared.underlay.tunnels.SegmentTunnel.{SegmentTunnel}
use Rattle.overlay.specs.declared.settings.change.Target.{Target}
use Rattle.overlay.specs.declared.settings.change.Target.TheVariants as target
use Rattle.overlay.specs.declared.settings.change.NewSegment.{NewSegment}
use Rattle.overlay.specs.declared.settings.change.Change.{Change}
use Rattle.overlay.specs.declared.settings.change.Change.TheVariants.{AddFlood, RemoveFlood, Fix, Unfix, SetAgeing}
use Rattle.overlay.specs.declared.settings.change.Change.TheVariants.{SetLearning, SetMember, PortUp, PortDown}
use Rattle.overlay.specs.declared.settings.change.Change.TheVariants.{Flush, AddSegment, RemoveSegment, SetLimit}
use Rattle.endpoint_core.specs.Settings.{Settings, BridgeSettings, SegmentSettings, segment_at, kind_named}

-- the kind of the tunnel that a change means, where there is one
abbrev pub kind_in : List SegmentTunnel → Option Tunnel → Tunnel
kind_in tunnels tunnel = unwrap_or (kind_named tunnels tunnel) Vxlan

-- where a fixed entry is to stand
abbrev pub place_of : List SegmentTunnel → Target → Place
place_of tunnels (target.Local port) = Local port
place_of tunnels (target.Remote addr tunnel) = Remote (kind_in tunnels tunnel) addr

-- ---- to the settings

-- what a change does to the settings in force
pub data Effect : Type 0 where
  -- another flood list of the segment of a VID
  ToFlood : (vid : ℕ) (change : SegmentSettings → Entries) → Effect
  -- other rules of the bridge of the segment of a VID; its limit stays
  ToBridge : (vid : ℕ) (change : BridgeSettings → BridgeSettings) → Effect
  -- another limit of the table of the segment of a VID
  ToLimit : (vid limit : ℕ) → Effect
  -- how the frames of the segment of a VID leave at a port, if it is to be a member
  ToMembers : (vid port : ℕ) (egress : Option Egress) → Effect
  -- a port is up or down
  ToPort : (port : ℕ) (up : Bool) → Effect
  -- a segment comes
  Comes : (new : NewSegment) → Effect
  -- the segment of a VID goes
  Goes : (vid : ℕ) → Effect
  ToNothing : Effect

-- what each change does
abbrev pub effect : Change → Effect
effect (AddFlood vid addr tunnel) = ToFlood vid (λ s. s.flood ++ record { tunnel = kind_in s.tunnels tunnel; addr = addr } ∷ [])
effect (RemoveFlood vid addr tunnel) = ToFlood vid (λ s. without s.flood (kind_in s.tunnels tunnel) addr)
effect (SetAgeing vid seconds) = ToBridge vid (λ bridge. record bridge { ageing = seconds })
effect (SetLearning vid on) = ToBridge vid (λ bridge. record bridge { learning = on })
effect (SetMember vid port egress) = ToMembers vid port egress
effect (PortUp port) = ToPort port true
effect (PortDown port) = ToPort port false
effect (AddSegment new) = Comes new
effect (RemoveSegment vid) = Goes vid
effect (SetLimit vid limit) = ToLimit vid limit
effect (Fix vid mac target) = ToNothing
effect (Unfix vid mac) = ToNothing
effect (Flush vid) = ToNothing

-- with another flood list of a segment
abbrev pub with_flood_of : Settings → ℕ → (SegmentSettings → Entries) → Settings
with_flood_of S vid change = option_map_or (λ s. record S { overlay = with_flood S.overlay vid (change s) }) (segment_at S vid) S

-- with other settings of the bridge of a segment
abbrev pub with_bridge : Settings → ℕ → (BridgeSettings → BridgeSettings) → Settings
with_bridge S vid change = record S { bridges = λ w. if w == vid then option_map change (S.bridges w) else S.bridges w }

-- what the underlay goes by for a segment that comes: it floods to nobody
abbrev pub new_tunnels : NewSegment → TunnelRule
new_tunnels new = record { vid = new.vid; tunnels = new.tunnels; flood = []; peers = new.peers; tags = new.tags }

-- by what its bridge learns
abbrev pub new_bridge : NewSegment → BridgeSettings
new_bridge new = record { limit = new.limit; ageing = new.ageing; learning = new.learning }

-- with one more segment, which has no members and no flood list
abbrev pub with_segment : Settings → NewSegment → Settings
with_segment S new = record S {
  ports = ports.with_segment S.ports new.vid;
  overlay = overlay.with_segment S.overlay (new_tunnels new);
  bridges = λ w. if w == new.vid then Some (new_bridge new) else S.bridges w;
}

-- without a segment; the PVIDs of ports stay
abbrev pub without_segment : Settings → ℕ → Settings
without_segment S vid = record S {
  ports = ports.without_segment S.ports vid;
  overlay = overlay.without_segment S.overlay vid;
  bridges = λ w. if w == vid then None else S.bridges w;
}

-- the settings after it
abbrev pub applied : Effect → Settings → Settings
applied (ToFlood vid change) S = with_flood_of S vid change
applied (ToBridge vid change) S = with_bridge S vid (λ bridge. record (change bridge) { limit = bridge.limit })
applied (ToLimit vid limit) S = with_bridge S vid (λ bridge. record bridge { limit = limit })
applied (ToMembers vid port egress) S = record S { ports = with_member S.ports vid port egress }
applied (ToPort port up) S = record S { ports = with_up S.ports port up }
applied (Comes new) S = with_segment S new
applied (Goes vid) S = without_segment S vid
applied ToNothing S = S

-- ---- to a table

-- what a change does to the table of a segment that it is about
pub data TableEffect : Type 0 where
  -- an address gets a fixed entry at a place, where there is room for it
  Fixes : (mac : List ℕ) (place : Place) → TableEffect
  -- the fixed entry of an address goes
  Unfixes : (mac : List ℕ) → TableEffect
  -- what was learned at a place goes
  Forgets : (place : Place) → TableEffect
  -- all that was learned goes
  ForgetsAll : TableEffect
  -- what was learned so many seconds ago or earlier goes
  Ages : (seconds : ℕ) → TableEffect
  -- where there are more entries than this, all go
  Limits : (limit : ℕ) → TableEffect
  -- all entries go, fixed ones too
  Empties : TableEffect
  KeepsAll : TableEffect

-- what each change does. Where a remote endpoint is taken from the flood list, a membership ends or a port goes down, what
-- was learned at that place goes; what is too old under a new ageing goes at once
abbrev pub table_effect : SegmentSettings → Change → TableEffect
table_effect s (AddFlood vid addr tunnel) = KeepsAll
table_effect s (RemoveFlood vid addr tunnel) = Forgets (Remote (kind_in s.tunnels tunnel) addr)
table_effect s (Fix vid mac target) = Fixes mac (place_of s.tunnels target)
table_effect s (Unfix vid mac) = Unfixes mac
table_effect s (SetAgeing vid seconds) = Ages seconds
table_effect s (SetLearning vid on) = KeepsAll
table_effect s (SetMember vid port (Some egress)) = KeepsAll
table_effect s (SetMember vid port None) = Forgets (Local port)
table_effect s (PortUp port) = KeepsAll
table_effect s (PortDown port) = Forgets (Local port)
table_effect s (Flush vid) = ForgetsAll
table_effect s (AddSegment new) = KeepsAll
table_effect s (RemoveSegment vid) = Empties
table_effect s (SetLimit vid limit) = Limits limit

-- what it leaves, at a moment, of a table with this limit that has what is live then
abbrev pub table_applied : ℕ → ℕ → TableEffect → Table → Table
table_applied t limit (Fixes mac place) m = fix limit place mac m
table_applied t limit (Unfixes mac) m = unfix mac m
table_applied t limit (Forgets place) m = flush_place place m
table_applied t limit ForgetsAll m = flush m
table_applied t limit (Ages seconds) m = live (nanoseconds seconds) t m
table_applied t limit (Limits new) m = if nat_lt new (len m) then empty else m
table_applied t limit Empties m = empty
table_applied t limit KeepsAll m = m
