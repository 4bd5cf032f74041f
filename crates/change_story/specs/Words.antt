-- The words of stories, and the values among them. It states no standard.
use Rattle.std.specs.Prelude.{ℕ, Bool, true, false, List, [], ◌∷◌, ◌++◌, codes, decimal, Option, Some, None}
use Rattle.wire.specs.declared.ip_udp.addr.Tunnel.{Tunnel}
use Rattle.wire.specs.declared.ip_udp.addr.Tunnel.TheVariants.{Vxlan, Geneve}
use Rattle.wire.specs.declared.ip_udp.udp_view.SumState.{SumState}
use Rattle.wire.specs.declared.ip_udp.udp_view.SumState.TheVariants.{Zero, Right, Partial, Wrong}
use Rattle.filter_db.specs.declared.entry.Entry.{Entry}
use Rattle.filter_db.specs.declared.place.Place.{Place}
use Rattle.overlay.specs.declared.ports.member.Egress.{Egress}
use Rattle.overlay.specs.declared.ports.member.Egress.TheVariants.{Tagged, Untagged}
use Rattle.endpoint_core.specs.Text.{hex_octet, place_text as decision_place}

-- octets in hexadecimal, each behind a colon
abbrev pub behind_colons : List ℕ → List ℕ
behind_colons [] = []
behind_colons (a ∷ b) = 58 ∷ hex_octet a ++ behind_colons b

-- octets in hexadecimal between colons
abbrev pub mac_text : List ℕ → List ℕ
mac_text [] = []
mac_text (a ∷ b) = hex_octet a ++ behind_colons b

-- a place as in a decision line, with the kind of a remote's tunnel
abbrev pub place_text : Place → List ℕ
place_text place = decision_place true place

-- the port of a number
abbrev pub port_text : ℕ → List ℕ
port_text port = codes "port p" ++ decimal port

-- a port's state
abbrev pub up_word : Bool → List ℕ
up_word true = codes "up"
up_word false = codes "down"

-- a kind of tunnel
abbrev pub tunnel_word : Tunnel → List ℕ
tunnel_word Vxlan = codes "vxlan"
tunnel_word Geneve = codes "geneve"

-- of an address whether it is a group's
abbrev pub group_word : Bool → List ℕ
group_word true = codes "group"
group_word false = codes "individual"

-- the same of a destination, where a bridge forwards it
abbrev pub destination_word : Bool → Bool → List ℕ
destination_word group true = codes "reserved"
destination_word group false = group_word group

-- where a VID comes from
abbrev pub origin_word : Bool → List ℕ
origin_word true = codes "the tag"
origin_word false = codes "the port"

-- how frames leave at a port
abbrev pub member_word : Option Egress → List ℕ
member_word None = codes " no member"
member_word (Some Tagged) = codes " member, tagged"
member_word (Some Untagged) = codes " member, untagged"

-- how a frame leaves at a port
abbrev pub egress_word : Option Egress → List ℕ
egress_word None = codes " no member"
egress_word (Some Tagged) = codes " tagged"
egress_word (Some Untagged) = codes " untagged"

-- whose an outer destination is
abbrev pub receiver_word : Bool → Bool → List ℕ
receiver_word true own = codes "receiver a group"
receiver_word false true = codes "receiver the endpoint"
receiver_word false false = codes "receiver another host"

-- what a UDP checksum says
abbrev pub sum_word : SumState → List ℕ
sum_word Zero = codes "0"
sum_word Right = codes "right"
sum_word Partial = codes "left to the card"
sum_word Wrong = codes "wrong"

-- whether a remote is on the flood list
abbrev pub listed_word : Bool → List ℕ
listed_word true = codes " on the flood list"
listed_word false = codes " not on the flood list"

-- when an entry was last seen, or that it is fixed
abbrev pub last_text : Option ℕ → List ℕ
last_text None = codes " fixed"
last_text (Some last) = codes " seen at " ++ decimal last

-- where an entry stands, and when it was last seen there
abbrev pub stood_text : Entry → List ℕ
stood_text s = place_text s.place ++ last_text s.last
