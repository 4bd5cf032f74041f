-- Who talks to whom, and the order of these. It states no standard.
use Rattle.std.specs.Prelude.{ℕ, ◌+◌, ◌*◌, ◌^◌}
use Rattle.wire.specs.Octets.{field}
use Rattle.wire.specs.declared.ip_udp.addr.Addr.{Addr}
use Rattle.wire.specs.declared.ip_udp.addr.Addr.TheVariants.{V4, V6}
use Rattle.wire.specs.declared.ip_udp.addr.Tunnel.{Tunnel}
use Rattle.wire.specs.declared.ip_udp.addr.Tunnel.TheVariants.{Vxlan, Geneve}
use Rattle.filter_db.specs.declared.place.Place.{Place}
use Rattle.filter_db.specs.declared.place.Place.TheVariants.{Local, Remote}
use Rattle.talkers.specs.declared.rows.talk.Exit.{Exit}
use Rattle.talkers.specs.declared.rows.talk.Exit.TheVariants.{To, Flood, Drop}
use Rattle.talkers.specs.declared.rows.talk.Talk.{Talk}

-- ---- places

-- IPv4 stands first
abbrev pub family_number : Addr → ℕ
family_number (V4 b) = 0
family_number (V6 b) = 1

-- the number that the octets of an address spell
abbrev pub address_number : Addr → ℕ
address_number (V4 b) = field 0 4 b
address_number (V6 b) = field 0 16 b

-- VXLAN stands first
abbrev pub tunnel_kind : Tunnel → ℕ
tunnel_kind Vxlan = 1
tunnel_kind Geneve = 3

-- ports stand first
abbrev pub place_kind : Place → ℕ
place_kind (Local port) = 0
place_kind (Remote kind addr) = tunnel_kind kind + family_number addr

-- among the places of its kind
abbrev pub place_number : Place → ℕ
place_number (Local port) = port
place_number (Remote kind addr) = address_number addr

-- places stand first
abbrev pub exit_kind : Exit → ℕ
exit_kind (To place) = place_kind place
exit_kind Flood = 5
exit_kind Drop = 6

-- among those of its kind
abbrev pub exit_number : Exit → ℕ
exit_number (To place) = place_number place
exit_number Flood = 0
exit_number Drop = 0

-- ---- the order

-- by segments, by sources and by destinations
unfoldable pub pair_number : Talk → ℕ
pair_number t = (t.vid * 2 ^ 48 + field 0 6 t.source) * 2 ^ 48 + field 0 6 t.destination

-- by the kinds of both places, and by the places
unfoldable pub places_number : Talk → ℕ
places_number t = ((place_kind t.from * 8 + exit_kind t.to) * 2 ^ 128 + place_number t.from) * 2 ^ 128 + exit_number t.to

-- by the former, and then by the latter
abbrev pub rank : Talk → ℕ
rank t = pair_number t * 2 ^ 262 + places_number t
