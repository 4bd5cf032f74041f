-- The values that stand in a header, as words behind its kind: the fields of IEEE 802.1Q, 9.6 (tags), RFC 791, 3.1 (IPv4),
-- RFC 8200, 3 (IPv6), RFC 768 (UDP), RFC 7348, 5 (VXLAN) and RFC 8926, 3.4 (Geneve), each at its place. As
--       ip4 192.0.2.1 > 192.0.2.2 ttl 64 length 96 protocol 17
use Rattle.std.specs.Prelude.{ℕ, ◌*◌, nat_le, if◌then◌else◌, List, [], ◌++◌, length, codes, decimal}
use Rattle.wire.specs.Octets.{octet, field, part}
use Rattle.wire.specs.Tag.{pcp_of, dei_of, vid_of, bit}
use Rattle.wire.specs.Ip.{Ip4 as family_4, Ip6 as family_6, total_length, payload_length}
use Rattle.wire.specs.Ip.{protocol, is_fragment, fragment_offset, has_more_fragments}
use Rattle.wire.specs.Udp.{sport, dport, udp_length}
use Rattle.wire.specs.VxlanReading.{vxlan_vni}
use Rattle.wire.specs.GeneveReading.{geneve_vni, options_length}
use Rattle.packet_layers.specs.declared.kind.HeadKind.{HeadKind}
use Rattle.packet_layers.specs.declared.kind.HeadKind.TheVariants.{Ether, Tag, Kind, Ip4, Ip6, Udp, Vxlan, Geneve}
use Rattle.packet_layers.specs.Text.{hex_text, mac_text, ip4_text, ip6_text}

-- the word of a kind
abbrev pub word_of : HeadKind → List ℕ
word_of Ether = codes "ether"
word_of Tag = codes "tag"
word_of Kind = codes "type"
word_of Ip4 = codes "ip4"
word_of Ip6 = codes "ip6"
word_of Udp = codes "udp"
word_of Vxlan = codes "vxlan"
word_of Geneve = codes "geneve"

-- ---- the values of a whole header h, each word behind a space

-- the source, and the destination, which stands in front of it in the header
abbrev pub ether_values : List ℕ → List ℕ
ether_values h = codes " " ++ mac_text (part 6 6 h) ++ codes " > " ++ mac_text (part 0 6 h)

-- the tag's type, and of its control information the VID, the priority and the drop eligible bit
abbrev pub tag_values : List ℕ → List ℕ
tag_values h =
    let tci = field 2 2 h in
    codes " " ++ hex_text (part 0 2 h) ++ codes " vid " ++ decimal (vid_of tci) ++ codes " pcp " ++ decimal (pcp_of tci) ++ codes " dei "
    ++ decimal (bit (dei_of tci))

-- the type
abbrev pub kind_values : List ℕ → List ℕ
kind_values h = codes " " ++ hex_text (part 0 2 h)

-- of a fragment, how many octets of the payload stand before its own, and whether more follow
abbrev pub fragment_values : List ℕ → List ℕ
fragment_values h =
    if is_fragment family_4 h
    then codes " offset " ++ decimal (8 * fragment_offset h) ++ codes " more " ++ decimal (bit (has_more_fragments h))
    else []

-- the addresses and the time to live
abbrev pub ip4_ends : List ℕ → List ℕ
ip4_ends h = codes " " ++ ip4_text (part 12 4 h) ++ codes " > " ++ ip4_text (part 16 4 h) ++ codes " ttl " ++ decimal (octet 8 h)

-- the length of header and payload, the protocol, and of a fragment where it belongs
abbrev pub ip4_fields : List ℕ → List ℕ
ip4_fields h = codes " length " ++ decimal (total_length h) ++ codes " protocol " ++ decimal (protocol family_4 h) ++ fragment_values h

-- all of them
abbrev pub ip4_values : List ℕ → List ℕ
ip4_values h = ip4_ends h ++ ip4_fields h

-- the addresses and the hop limit
abbrev pub ip6_ends : List ℕ → List ℕ
ip6_ends h = codes " " ++ ip6_text (part 8 16 h) ++ codes " > " ++ ip6_text (part 24 16 h) ++ codes " hop-limit " ++ decimal (octet 7 h)

-- the length of the payload, and the next header
abbrev pub ip6_fields : List ℕ → List ℕ
ip6_fields h = codes " length " ++ decimal (payload_length h) ++ codes " next-header " ++ decimal (protocol family_6 h)

-- all of them
abbrev pub ip6_values : List ℕ → List ℕ
ip6_values h = ip6_ends h ++ ip6_fields h

-- the ports, the length of header and data, and the checksum
abbrev pub udp_values : List ℕ → List ℕ
udp_values h =
    codes " " ++ decimal (sport h) ++ codes " > " ++ decimal (dport h) ++ codes " length " ++ decimal (udp_length h) ++ codes " checksum "
    ++ hex_text (part 6 2 h)

-- the VNI
abbrev pub vxlan_values : List ℕ → List ℕ
vxlan_values h = codes " vni " ++ decimal (vxlan_vni h)

-- the VNI, and the octets of the options
abbrev pub geneve_values : List ℕ → List ℕ
geneve_values h = codes " vni " ++ decimal (geneve_vni h) ++ codes " options " ++ decimal (options_length h)

-- ---- of any header

-- the octets that the values stand in
abbrev pub least : HeadKind → ℕ
least Ether = 12
least Tag = 4
least Kind = 2
least Ip4 = 20
least Ip6 = 40
least Udp = 8
least Vxlan = 8
least Geneve = 8

-- the values of a whole header of a kind
abbrev pub told : HeadKind → List ℕ → List ℕ
told Ether h = ether_values h
told Tag h = tag_values h
told Kind h = kind_values h
told Ip4 h = ip4_values h
told Ip6 h = ip6_values h
told Udp h = udp_values h
told Vxlan h = vxlan_values h
told Geneve h = geneve_values h

-- the values of a header; none of one that is cut
abbrev pub values_of : HeadKind → List ℕ → List ℕ
values_of kind h = if nat_le (least kind) (length h) then told kind h else []
