-- How a decision is printed in a decision line: `drop 35 SamePlace`, or the outcomes as `p2=60 192.0.2.2!TooBig`.
-- It states no standard.
use Rattle.std.specs.Prelude.{ℕ, ◌+◌, ◌/◌, ◌%◌, nat_lt, Bool, if◌then◌else◌, List, [], ◌∷◌, ◌++◌, length, drop, codes, Option}
use Rattle.std.specs.Prelude.{Some, None, Result, Ok, Err}
use Rattle.std.specs.Fmt.{decimal}
use Rattle.wire.specs.Octets.{octet}
use Rattle.wire.specs.Reason.{number_of, name_of}
use Rattle.wire.specs.declared.ether.reason.Reason.{Reason}
use Rattle.wire.specs.declared.ip_udp.addr.Addr.{Addr}
use Rattle.wire.specs.declared.ip_udp.addr.Addr.TheVariants.{V4, V6}
use Rattle.wire.specs.declared.ip_udp.addr.Tunnel.{Tunnel}
use Rattle.wire.specs.declared.ip_udp.addr.Tunnel.TheVariants.{Vxlan, Geneve}
use Rattle.filter_db.specs.declared.place.Place.{Place}
use Rattle.filter_db.specs.declared.place.Place.TheVariants.{Local, Remote}
use Rattle.endpoint_core.specs.Decision.{Sent, Decision}

-- ---- addresses

-- a hexadecimal digit, in lower case
abbrev pub hex_digit : ℕ → ℕ
hex_digit d = if nat_lt d 10 then 48 + d else 87 + d

-- an octet in two hexadecimal digits
abbrev pub hex_octet : ℕ → List ℕ
hex_octet n = hex_digit (n / 16) ∷ hex_digit (n % 16) ∷ []

-- four decimals between points
abbrev pub ip4_text : List ℕ → List ℕ
ip4_text b = decimal (octet 0 b) ++ codes "." ++ decimal (octet 1 b) ++ codes "." ++ decimal (octet 2 b) ++ codes "." ++ decimal (octet 3 b)

-- groups of two octets in hexadecimal, each behind a colon
abbrev pub grouped : List ℕ → List ℕ
grouped (a ∷ b ∷ rest) = 58 ∷ hex_octet a ++ hex_octet b ++ grouped rest
grouped _ = []

-- eight of them between colons
abbrev pub ip6_text : List ℕ → List ℕ
ip6_text b = drop 1 (grouped b)

-- an address of either family
abbrev pub addr_text : Addr → List ℕ
addr_text (V4 b) = ip4_text b
addr_text (V6 b) = ip6_text b

-- ---- decisions

-- the kind of a tunnel, before its address
abbrev pub kind_text : Tunnel → List ℕ
kind_text Vxlan = codes "vxlan:"
kind_text Geneve = codes "geneve:"

-- the kind of a remote's tunnel is told where the segment has two
abbrev pub place_text : Bool → Place → List ℕ
place_text two_tunnels (Local port) = codes "p" ++ decimal port
place_text two_tunnels (Remote kind addr) = (if two_tunnels then kind_text kind else []) ++ addr_text addr

-- the number of octets sent, or the name of the reason
abbrev pub sent_text : Result (List ℕ) Reason → List ℕ
sent_text (Ok octets) = codes "=" ++ decimal (length octets)
sent_text (Err reason) = codes "!" ++ name_of reason

-- a place, and what came of it
abbrev pub outcome_text : Bool → Sent → List ℕ
outcome_text two_tunnels o = place_text two_tunnels o.place ++ sent_text o.sent

-- each behind a space
abbrev pub further_text : Bool → List Sent → List ℕ
further_text two_tunnels [] = []
further_text two_tunnels (o ∷ os) = 32 ∷ outcome_text two_tunnels o ++ further_text two_tunnels os

-- with one space between them
abbrev pub outcomes_text : Bool → List Sent → List ℕ
outcomes_text two_tunnels [] = []
outcomes_text two_tunnels (o ∷ os) = outcome_text two_tunnels o ++ further_text two_tunnels os

-- a drop, or the outcomes
abbrev pub result_by : Bool → Option Reason → List Sent → List ℕ
result_by two_tunnels (Some reason) outcomes = codes "drop " ++ decimal (number_of reason) ++ codes " " ++ name_of reason
result_by two_tunnels None outcomes = outcomes_text two_tunnels outcomes

-- the text of a decision
abbrev pub result_of : Decision → List ℕ
result_of d = result_by d.two_tunnels d.dropped d.outcomes
