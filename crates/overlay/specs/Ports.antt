-- The local ports of a bridge, and the members of its segments (IEEE 802.1Q, 6.9 and 8.8).
use Rattle.std.specs.Prelude.{ℕ, ◌-◌, Bool, false, ◌&&◌, nat_le, is_some, List, [], ◌∷◌, map}
use Rattle.std.specs.Prelude.{slice_set, slice_index_or, unwrap_or, if◌then◌else◌, Option, None, Some}
use Rattle.std.specs.List.{list_all}
use Rattle.std.specs.Option.{option_and_then}
use Rattle.std.specs.Ordering.{nat_cmp}
use Rattle.std.specs.FinMap.{FinMap, empty, get, insert, remove, from_entries}
use Rattle.overlay.specs.declared.ports.member.Egress.{Egress}
use Rattle.overlay.specs.declared.ports.member.Egress.TheVariants.{Tagged, Untagged}
use Rattle.overlay.specs.declared.ports.member.MemberRule.{MemberRule}
use Rattle.overlay.specs.declared.ports.port.Accept.TheVariants.{All}
use Rattle.overlay.specs.declared.ports.port.PortRule.{PortRule}

-- how the frames of a segment leave, by the numbers of its member ports
abbrev pub Members : Type 0
Members = FinMap nat_cmp Egress

-- the members of each segment, by its VID
abbrev pub Segments : Type 0
Segments = FinMap nat_cmp Members

-- the ports, and the members of each segment
pub record Ports : Type 0 where
  -- port 1, port 2 and so on
  pub ports : List PortRule
  pub segments : Segments

-- what stands for a port that isn't there: it is down
abbrev pub no_port : PortRule
no_port = record { pvid = 0; accept = All; up = false }

-- the port of this number, from 1
abbrev pub port_at : Ports → ℕ → PortRule
port_at s port = slice_index_or s.ports (port - 1) no_port

-- a port is up
abbrev pub is_up : Ports → ℕ → Bool
is_up s port = (port_at s port).up

-- the members of the segment with this VID, where there is one
abbrev pub members_at : Ports → ℕ → Option Members
members_at s vid = get s.segments vid

-- there is a segment with this VID
abbrev pub has_segment : Ports → ℕ → Bool
has_segment s vid = is_some (members_at s vid)

-- how the segment's frames leave at a port, where that is a member
abbrev pub egress_at : Ports → ℕ → ℕ → Option Egress
egress_at s vid port = option_and_then (λ members. get members port) (members_at s vid)

-- ---- the ports and segments that rules tell

-- the numbers of ports are 1 to how many there are
abbrev pub is_port : ℕ → ℕ → Bool
is_port count number = nat_le 1 number && nat_le number count

-- all of them are numbers of ports
abbrev pub are_ports : ℕ → List ℕ → Bool
are_ports count numbers = list_all (is_port count) numbers

-- a rule lists none but numbers of ports
abbrev pub lists_ports : ℕ → MemberRule → Bool
lists_ports count rule = are_ports count rule.untagged && are_ports count rule.tagged

-- with each of these ports a member whose frames leave so
abbrev pub with_each : List ℕ → Egress → Members → Members
with_each [] egress members = members
with_each (port ∷ ports) egress members = with_each ports egress (insert members port egress)

-- tagged at the ports of the one list, and untagged at those of the other
abbrev pub members_of : MemberRule → Members
members_of rule = with_each rule.untagged Untagged (with_each rule.tagged Tagged empty)

-- of two rules for one VID the first holds
abbrev pub told : List PortRule → List MemberRule → Ports
told ports rules = record { ports = ports; segments = from_entries (map (λ rule. (rule.vid, members_of rule)) rules) }

-- with the segment of one more rule, unless there is one of its VID
abbrev pub with_rule : Ports → MemberRule → Ports
with_rule s rule = if has_segment s rule.vid then s else record s { segments = insert s.segments rule.vid (members_of rule) }

-- ---- what the setters leave

-- with a port up or down
abbrev pub with_up : Ports → ℕ → Bool → Ports
with_up s port up = record s { ports = slice_set s.ports (port - 1) (record (port_at s port) { up = up }) }

-- with a port a member whose frames leave so, or no member
abbrev pub member_set : Members → ℕ → Option Egress → Members
member_set members port (Some egress) = insert members port egress
member_set members port None = remove members port

-- with a port made a member of a segment, or no member
abbrev pub with_member : Ports → ℕ → ℕ → Option Egress → Ports
with_member s vid port egress = record s { segments = insert s.segments vid (member_set (unwrap_or (members_at s vid) empty) port egress) }

-- with one more segment, which has no members
abbrev pub with_segment : Ports → ℕ → Ports
with_segment s vid = record s { segments = insert s.segments vid empty }

-- without a segment
abbrev pub without_segment : Ports → ℕ → Ports
without_segment s vid = record s { segments = remove s.segments vid }
