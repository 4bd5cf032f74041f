-- The ports, and the members of one segment (IEEE 802.1Q, 8.8.10).
use Rattle.std.specs.Prelude.{ℕ, ◌-◌, Bool, ◌&&◌, is_some, List, length, Option, slice_index_or}
use Rattle.std.specs.List.{filter, range_with_len}
use Rattle.std.specs.Option.{option_and_then}
use Rattle.std.specs.FinMap.{get}
use Rattle.overlay.specs.declared.ports.port.PortRule.{PortRule}
use Rattle.overlay.specs.Ports.{Members, Ports, members_at, no_port}

-- the ports, and the members of a segment, where there is one
pub record Row : Type 0 where
  -- port 1, port 2 and so on
  pub ports : List PortRule
  pub members : Option Members

-- that of the segment with this VID
abbrev pub row_at : Ports → ℕ → Row
row_at s vid = record { ports = s.ports; members = members_at s vid }

-- a port is up
abbrev pub is_up : Row → ℕ → Bool
is_up r port = (slice_index_or r.ports (port - 1) no_port).up

-- a port is a member of the segment
abbrev pub is_member : Row → ℕ → Bool
is_member r port = is_some (option_and_then (λ members. get members port) r.members)

-- the members, rising
abbrev pub member_ports : Row → List ℕ
member_ports r = filter (is_member r) (range_with_len 1 (length r.ports))

-- frames of the segment may leave by this port: it is up, and a member
abbrev pub serves : Row → ℕ → Bool
serves r port = is_up r port && is_member r port
