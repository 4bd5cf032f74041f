-- What counts of an endpoint's settings for who reaches whom, segment by segment. It states no standard.
use Rattle.std.specs.Prelude.{ℕ, Bool, true, false, List}
use Rattle.overlay.specs.declared.flood.own.Own.{Own}
use Rattle.overlay.specs.declared.settings.segment.SegmentRule.{SegmentRule}
use Rattle.overlay.specs.declared.underlay.segment.PeerRule.{PeerRule}
use Rattle.overlay.specs.declared.underlay.segment.PeerRule.TheVariants.{Any, Listed}
use Rattle.overlay.specs.declared.underlay.settings.Underlay.{Underlay}
use Rattle.overlay.specs.declared.underlay.tunnels.SegmentTunnel.{SegmentTunnel}
use Rattle.overlay.specs.Flood.{Entries}
use Rattle.overlay.specs.UnderlaySettings.{own}
use Rattle.fabric_ways.specs.declared.member.Member.{Member}

-- what counts of a segment
pub record Facts : Type 0 where
  pub leaf : ℕ
  pub vid : ℕ
  pub own : Own
  pub vxlan_port : ℕ
  pub geneve_port : ℕ
  pub sum6 : Bool
  pub zero6 : Bool
  pub tunnels : List SegmentTunnel
  pub flood : Entries
  pub listed : Bool
  pub learns : Bool

-- a rule asks for listed senders
abbrev pub is_listed : PeerRule → Bool
is_listed Any = false
is_listed Listed = true

-- what settings say of a segment of a leaf
abbrev pub facts_of : ℕ → Underlay → SegmentRule → Facts
facts_of leaf U rule = record {
  leaf = leaf;
  vid = rule.vid;
  own = own U;
  vxlan_port = U.vxlan_port;
  geneve_port = U.geneve_port;
  sum6 = U.sum6;
  zero6 = U.zero6;
  tunnels = rule.tunnels;
  flood = rule.flood;
  listed = is_listed rule.peers;
  learns = rule.learning;
}

-- the same of a member
abbrev pub facts : Member → Facts
facts X = record {
  leaf = X.leaf;
  vid = X.vid;
  own = X.own;
  vxlan_port = X.vxlan_port;
  geneve_port = X.geneve_port;
  sum6 = X.sum6;
  zero6 = X.zero6;
  tunnels = X.tunnels;
  flood = X.flood.value.items;
  listed = X.listed;
  learns = X.learns;
}
