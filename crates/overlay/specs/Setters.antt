-- What the look-ups answer after a setter: what it set, and everything else as before. It states no standard.
use Rattle.std.specs.Prelude.{◌≡◌, ◌≤◌, ℕ, Bool, ◌==◌, ◌&&◌, ◌||◌, if◌then◌else◌, length, Option, Some, None}
use Rattle.std.specs.FinMap.{empty}
use Rattle.overlay.specs.declared.ports.member.Egress.{Egress}
use Rattle.overlay.specs.Ports.{Ports, port_at, members_at, has_segment, egress_at, with_up, with_member, with_segment, without_segment}

-- a port up or down: no other port
abbrev pub UpAlone : Type 0
UpAlone = (s : Ports) (port : ℕ) (up : Bool) (p : ℕ) → 1 ≤ port → port ≤ length s.ports → 1 ≤ p
    → port_at (with_up s port up) p ≡ (if p == port then record (port_at s p) { up = up } else port_at s p)

-- a membership: no other port of the segment, and no other segment
abbrev pub MemberAlone : Type 0
MemberAlone = (s : Ports) (vid port : ℕ) (egress : Option Egress) (v p : ℕ)
    → egress_at (with_member s vid port egress) v p ≡ (if v == vid && p == port then egress else egress_at s v p)

-- no segment comes or goes, but that of the membership is there
abbrev pub MemberKeepsSegments : Type 0
MemberKeepsSegments = (s : Ports) (vid port : ℕ) (egress : Option Egress) (v : ℕ)
    → has_segment (with_member s vid port egress) v ≡ (v == vid || has_segment s v)

-- one segment more, without members, and one less
abbrev pub SegmentAlone : Type 0
SegmentAlone = (s : Ports) (vid v : ℕ) → members_at (with_segment s vid) v ≡ (if v == vid then Some empty else members_at s v)

-- taking a segment away changes no other
abbrev pub RemovalAlone : Type 0
RemovalAlone = (s : Ports) (vid v : ℕ) → members_at (without_segment s vid) v ≡ (if v == vid then None else members_at s v)
