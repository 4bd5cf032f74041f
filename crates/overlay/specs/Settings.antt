-- The settings of an endpoint, as they are told. It states no standard.
--     Settings      all of them
--     tunnel_rule, member_rule, table_rule      what the rule of a segment tells each layer
use Rattle.std.specs.Prelude.{ℕ, List, Bool, nat_eq, sum, map}
use Rattle.std.specs.List.{list_any}
use Rattle.std.specs.Ordering.{nat_cmp}
use Rattle.std.specs.Cmp.Lexicographic.{slice_cmp}
use Rattle.std.specs.FinMap.{FinMap}
use Rattle.filter_db.specs.declared.tables.TableRule.{TableRule}
use Rattle.overlay.specs.declared.ports.member.MemberRule.{MemberRule}
use Rattle.overlay.specs.declared.ports.port.PortRule.{PortRule}
use Rattle.overlay.specs.declared.underlay.segment.TunnelRule.{TunnelRule}
use Rattle.overlay.specs.declared.underlay.settings.Underlay.{Underlay}
use Rattle.overlay.specs.declared.settings.segment.SegmentRule.{SegmentRule}

-- settings, as a text tells them
pub record Settings : Type 0 where
  pub underlay : Underlay
  -- port 1, port 2 and so on
  pub ports : List PortRule
  pub segments : List SegmentRule
  -- the most entries that all tables together may be given
  pub pool : ℕ

-- the next hops by the octets of the addresses to which they lead
abbrev pub Exceptions : Type 0
Exceptions = FinMap (slice_cmp nat_cmp) (List ℕ)

-- ---- segments

-- what the underlay goes by
abbrev pub tunnel_rule : SegmentRule → TunnelRule
tunnel_rule s = record { vid = s.vid; tunnels = s.tunnels; flood = s.flood; peers = s.peers; tags = s.tags }

-- what the ports go by
abbrev pub member_rule : SegmentRule → MemberRule
member_rule s = record { vid = s.vid; untagged = s.untagged; tagged = s.tagged }

-- what its table goes by
abbrev pub table_rule : SegmentRule → TableRule
table_rule s = record { vid = s.vid; limit = s.limit; ageing = s.ageing }

-- how many addresses all tables may hold
abbrev pub sum_of_limits : List SegmentRule → ℕ
sum_of_limits segments = sum (map (λ s. s.limit) segments)

-- a port of this number is among members
abbrev pub is_member : List ℕ → ℕ → Bool
is_member members port = list_any (nat_eq port) members
