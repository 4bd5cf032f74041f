-- How a change is printed: its kind, and its keys with their values, as a changes file has them. It states no standard.
use Rattle.std.specs.Prelude.{ℕ, if◌then◌else◌, Bool, true, false, List, [], ◌∷◌, ◌++◌, slice_get, codes, decimal, Option, Some, None}
use Rattle.wire.specs.declared.ip_udp.addr.Tunnel.{Tunnel}
use Rattle.wire.specs.declared.ip_udp.addr.Tunnel.TheVariants.{Vxlan, Geneve}
use Rattle.overlay.specs.declared.ports.member.Egress.{Egress}
use Rattle.overlay.specs.declared.ports.member.Egress.TheVariants.{Tagged, Untagged}
use Rattle.overlay.specs.Tunnels.{of_kind}
use Rattle.overlay.specs.declared.underlay.segment.PeerRule.{PeerRule}
use Rattle.overlay.specs.declared.underlay.segment.PeerRule.TheVariants.{Any, Listed}
use Rattle.overlay.specs.declared.underlay.segment.TagRule.{TagRule}
use Rattle.overlay.specs.declared.underlay.segment.TagRule.TheVariants.{Drop, Pass, Never}
use Rattle.overlay.specs.declared.underlay.tunnels.SegmentTunnel.{SegmentTunnel}
use Rattle.overlay.specs.declared.settings.change.Change.{Change}
use Rattle.overlay.specs.declared.settings.change.Change.TheVariants.{AddFlood, RemoveFlood, Fix, Unfix, SetAgeing}
use Rattle.overlay.specs.declared.settings.change.Change.TheVariants.{SetLearning, SetMember, PortUp, PortDown}
use Rattle.overlay.specs.declared.settings.change.Change.TheVariants.{Flush, AddSegment, RemoveSegment, SetLimit}
use Rattle.overlay.specs.declared.settings.change.Target.{Target}
use Rattle.overlay.specs.declared.settings.change.Target.TheVariants as target
use Rattle.endpoint_core.specs.Text.{addr_text}
use Rattle.change_story.specs.Words.{mac_text, tunnel_word}

-- a kind and a VID
abbrev pub of_vid : List ℕ → ℕ → List ℕ
of_vid kind vid = kind ++ codes " vid " ++ decimal vid

-- the tunnel that is named, if one is
abbrev pub named_text : Option Tunnel → List ℕ
named_text None = []
named_text (Some kind) = codes " tunnel " ++ tunnel_word kind

-- where a fixed entry is to stand
abbrev pub target_text : Target → List ℕ
target_text (target.Local port) = codes " port " ++ decimal port
target_text (target.Remote addr tunnel) = codes " remote " ++ addr_text addr ++ named_text tunnel

-- how frames are to leave at a port
abbrev pub egress_name : Option Egress → List ℕ
egress_name None = codes " egress none"
egress_name (Some Tagged) = codes " egress tagged"
egress_name (Some Untagged) = codes " egress untagged"

-- the first tunnel of a new segment, which is meant where a change names none
abbrev pub first_text : SegmentTunnel → List ℕ
first_text t = codes " vni " ++ decimal t.vni ++ codes " tunnel " ++ tunnel_word t.kind ++ codes " group " ++ decimal t.group

-- its second, where there is one
abbrev pub second_text : Option SegmentTunnel → List ℕ
second_text None = []
second_text (Some t) = codes " vni2 " ++ decimal t.vni ++ codes " group2 " ++ decimal t.group

-- a second tunnel is of the other kind
abbrev pub other_kind : Tunnel → Tunnel
other_kind Vxlan = Geneve
other_kind Geneve = Vxlan

-- the first one, and the second of them all
abbrev pub tunnels_from : Option SegmentTunnel → List SegmentTunnel → List ℕ
tunnels_from None tunnels = []
tunnels_from (Some first) tunnels = first_text first ++ second_text (of_kind (other_kind first.kind) tunnels)

-- the tunnels of a new segment
abbrev pub tunnels_text : List SegmentTunnel → List ℕ
tunnels_text tunnels = tunnels_from (slice_get tunnels 0) tunnels

-- the numbers of a new segment's table
abbrev pub numbers_text : ℕ → ℕ → List ℕ
numbers_text limit ageing = codes " limit " ++ decimal limit ++ codes " ageing " ++ decimal ageing

-- true or false
abbrev pub truth_word : Bool → List ℕ
truth_word true = codes "true"
truth_word false = codes "false"

-- who may send to a new segment through its tunnels
abbrev pub peers_word : PeerRule → List ℕ
peers_word Any = codes "any"
peers_word Listed = codes "listed"

-- what becomes of a frame that begins with a tag in a tunnel
abbrev pub tags_word : TagRule → List ℕ
tags_word Drop = codes "drop"
tags_word Pass = codes "pass"
tags_word Never = codes "never"

-- the rules of a new segment
abbrev pub rules_text : Bool → PeerRule → TagRule → List ℕ
rules_text learning peers tags = codes " learn " ++ truth_word learning ++ codes " peers " ++ peers_word peers ++ codes " tags "
    ++ tags_word tags

-- a change
abbrev pub change_text : Change → List ℕ
change_text (AddFlood vid addr tunnel) = of_vid (codes "add_flood") vid ++ codes " addr " ++ addr_text addr ++ named_text tunnel
change_text (RemoveFlood vid addr tunnel) = of_vid (codes "remove_flood") vid ++ codes " addr " ++ addr_text addr ++ named_text tunnel
change_text (Fix vid mac target) = of_vid (codes "fix") vid ++ codes " mac " ++ mac_text mac ++ target_text target
change_text (Unfix vid mac) = of_vid (codes "unfix") vid ++ codes " mac " ++ mac_text mac
change_text (SetAgeing vid seconds) = of_vid (codes "set_ageing") vid ++ codes " seconds " ++ decimal seconds
change_text (SetLearning vid on) = of_vid (codes "set_learning") vid ++ (if on then codes " on true" else codes " on false")
change_text (SetMember vid port egress) = of_vid (codes "set_member") vid ++ codes " port " ++ decimal port ++ egress_name egress
change_text (PortUp port) = codes "port_up port " ++ decimal port
change_text (PortDown port) = codes "port_down port " ++ decimal port
change_text (Flush vid) = of_vid (codes "flush") vid
change_text (AddSegment new) =
    of_vid (codes "add_segment") new.vid ++ tunnels_text new.tunnels ++ numbers_text new.limit new.ageing
    ++ rules_text new.learning new.peers new.tags
change_text (RemoveSegment vid) = of_vid (codes "remove_segment") vid
change_text (SetLimit vid limit) = of_vid (codes "set_limit") vid ++ codes " limit " ++ decimal limit

-- a line of its own, begun by two spaces
abbrev pub change_line : Change → List ℕ
change_line c = codes "  " ++ change_text c ++ 10 ∷ []
