-- What the lines of what passed by tunnels tell, one by one. It states no standard.
--     row_in      a line without its line feed; nothing where it is none of these
--     rows_of      the lines of a text, in order
--     with_row, told_by      what was counted behind what a line tells, and behind many
-- A line is read here by its words alone: whether it is written as it has to be is seen where all of them are written again.
use Rattle.std.specs.Prelude.{ℕ, ◌^◌, nat_lt, if◌then◌else◌, List, [], ◌∷◌, codes, Option, Some, None}
use Rattle.std.specs.List.{filter_map}
use Rattle.std.specs.Option.{option_and_then}
use Rattle.wire.specs.Octets.{is_same}
use Rattle.wire.specs.declared.ip_udp.addr.Tunnel.{Tunnel}
use Rattle.wire.specs.declared.ip_udp.addr.Tunnel.TheVariants.{Vxlan, Geneve}
use Rattle.line_words.specs.Words.{word, behind}
use Rattle.line_words.specs.Lines.{whole_lines}
use Rattle.line_words.specs.Numbers.{number_of}
use Rattle.tunnel_traffic.specs.TrafficRows.{counted, with_others}
use Rattle.tunnel_traffic.specs.declared.rows.key.TunnelKey.{TunnelKey}
use Rattle.tunnel_traffic.specs.declared.rows.traffic.Traffic.{Traffic}
use Rattle.tunnel_traffic.specs.Tables.{Tunnels, endpoint_key}
use Rattle.tunnel_traffic.specs.Address.{addr_of, front, back}
use Rattle.tunnel_traffic.specs.Tables.{packets_of}
use Rattle.tunnel_traffic.specs.declared.told.row.Row.{Row}
use Rattle.tunnel_traffic.specs.declared.told.row.Row.TheVariants.{Unknown, UnknownOthers, Remote, RemoteOthers}

-- ---- words

-- the kind of a name
abbrev pub kind_of : List ℕ → Option Tunnel
kind_of text = if is_same text (codes "vxlan") then Some Vxlan else if is_same text (codes "geneve") then Some Geneve else None

-- a number that is a VNI (RFC 7348, 5; RFC 8926, 3.4)
abbrev pub vni_numbered : ℕ → Option ℕ
vni_numbered number = if nat_lt number (2 ^ 24) then Some number else None

-- that of a word
abbrev pub vni_of : List ℕ → Option ℕ
vni_of text = option_and_then vni_numbered (number_of text)

-- KIND:ADDRESS
abbrev pub endpoint_of : List ℕ → Option TunnelKey
endpoint_of text =
    option_and_then (λ kind. option_and_then (λ address. Some (endpoint_key kind address))
    (addr_of (back 58 text))) (kind_of (front 58 text))

-- ---- lines

-- from ADDRESS N
abbrev pub unknown_by : Tunnel → ℕ → List ℕ → Option Row
unknown_by kind vni text =
    option_and_then (λ address. option_and_then (λ count. Some (Unknown (record { kind = kind; vni = vni; address = address }) count))
    (number_of (behind (behind text)))) (addr_of (word (behind text)))

-- V, and then that
abbrev pub unknown_of : Tunnel → List ℕ → Option Row
unknown_of kind text = option_and_then (λ vni. unknown_by kind vni (behind text)) (vni_of (word text))

-- KIND, and then that; others N
abbrev pub unknown_in : List ℕ → Option Row
unknown_in text =
    if is_same (word text) (codes "others") then option_and_then (λ count. Some (UnknownOthers count)) (number_of (behind text))
    else option_and_then (λ kind. unknown_of kind (behind text)) (kind_of (word text))

-- in N OCTETS out N OCTETS
abbrev pub flows_in : List ℕ → Option Traffic
flows_in text =
    option_and_then (λ came. option_and_then (λ came_octets. option_and_then (λ left. option_and_then (λ left_octets.
    Some (record { came = came; came_octets = came_octets; left = left; left_octets = left_octets }))
    (number_of (behind (behind (behind (behind (behind text)))))))
    (number_of (word (behind (behind (behind (behind text)))))))
    (number_of (word (behind (behind text)))))
    (number_of (word (behind text)))

-- KIND:ADDRESS, and then that; others, and then that
abbrev pub remote_in : List ℕ → Option Row
remote_in text =
    option_and_then (λ traffic. if is_same (word text) (codes "others") then Some (RemoteOthers traffic)
    else option_and_then (λ key. Some (Remote key traffic)) (endpoint_of (word text))) (flows_in (behind text))

-- what a line tells, by its first word
unfoldable pub row_in : List ℕ → Option Row
row_in line =
    if is_same (word line) (codes "unknown") then unknown_in (behind line)
    else if is_same (word line) (codes "remote") then remote_in (behind line)
    else None

-- those of a text
abbrev pub rows_of : List ℕ → List Row
rows_of text = filter_map row_in (whole_lines text)

-- ---- what was counted

-- a line more
abbrev pub with_row : Tunnels → Row → Tunnels
with_row t (Unknown key count) = record { unknown = counted t.unknown key (packets_of count); remotes = t.remotes }
with_row t (UnknownOthers count) = record { unknown = with_others t.unknown (packets_of count); remotes = t.remotes }
with_row t (Remote key traffic) = record { unknown = t.unknown; remotes = counted t.remotes key traffic }
with_row t (RemoteOthers traffic) = record { unknown = t.unknown; remotes = with_others t.remotes traffic }

-- one line after another
abbrev pub told_by : Tunnels → List Row → Tunnels
told_by t [] = t
told_by t (row ∷ rows) = told_by (with_row t row) rows
