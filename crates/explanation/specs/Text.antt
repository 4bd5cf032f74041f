-- How the layers of a packet are printed. It states no standard. A line for each part, with its place and its length in
-- octets, and one for the stop; as
--       ip4 14 20
--       payload 34 76
--       stop 20 NotTunnel
-- and, where values are shown,
--       ip4 14 20 192.0.2.1 > 192.0.2.2 ttl 64 length 96 protocol 17
use Rattle.std.specs.Prelude.{ℕ, ◌&&◌, Bool, false, not, if◌then◌else◌, List, [], ◌∷◌, ◌++◌, length, codes, decimal}
use Rattle.std.specs.List.{flat_map}
use Rattle.wire.specs.Reason.{number_of, name_of}
use Rattle.wire.specs.declared.ether.reason.Reason.TheVariants.{BadUdpSum}
use Rattle.overlay.specs.Overlay.{Overlay}
use Rattle.decapsulate.specs.Card.{is_left_to_card}
use Rattle.endpoint_core.specs.Decision.{Decision}
use Rattle.endpoint_core.specs.Text.{result_of}
use Rattle.packet_layers.specs.declared.kind.Stop.{Stop}
use Rattle.packet_layers.specs.declared.kind.Stop.TheVariants.{At, Deep}
use Rattle.packet_layers.specs.Apart.{Span, Head}
use Rattle.packet_layers.specs.Dissection.{Layers}
use Rattle.packet_layers.specs.Values.{word_of, values_of}
use Rattle.explanation.specs.declared.text.Values.{Values}
use Rattle.explanation.specs.declared.text.Values.TheVariants.{Hidden, Shown}

-- a part: a word for it, its place and its length
abbrev pub part_text : List ℕ → ℕ → ℕ → List ℕ
part_text word place octets = codes "  " ++ word ++ codes " " ++ decimal place ++ codes " " ++ decimal octets

-- the line of a part of which no more is told
abbrev pub part_line : List ℕ → ℕ → ℕ → List ℕ
part_line word place octets = part_text word place octets ++ 10 ∷ []

-- the values of a head, where they are shown
abbrev pub shown : Values → Head → List ℕ
shown Hidden h = []
shown Shown h = values_of h.kind h.octets

-- the line of a head, with its values where they are shown
abbrev pub head_line : Values → Head → List ℕ
head_line values h = part_text (word_of h.kind) h.place (length h.octets) ++ shown values h ++ 10 ∷ []

-- the line of a tail
abbrev pub tail_line : Span → List ℕ
tail_line t = part_line (codes "tail") t.place (length t.octets)

-- the line of the payload
abbrev pub payload_line : Span → List ℕ
payload_line p = part_line (codes "payload") p.place (length p.octets)

-- why no more is taken off
abbrev pub stop_line : Stop → List ℕ
stop_line (At reason) = codes "  stop " ++ decimal (number_of reason) ++ codes " " ++ name_of reason ++ 10 ∷ []
stop_line Deep = codes "  stop Deep" ++ 10 ∷ []

-- taking the packet b apart stops at its checksum, which its sender left to the network card
abbrev pub is_left_at : Overlay → List ℕ → Stop → Bool
is_left_at S b (At BadUdpSum) = not S.underlay.partial && is_left_to_card b
is_left_at S b (At reason) = false
is_left_at S b Deep = false

-- the line that tells so
abbrev pub card_line : Bool → List ℕ
card_line is_left = if is_left then codes "  udp checksum left to the card" ++ 10 ∷ [] else []

-- all of them, in the order of the packet
abbrev pub layers_text : Values → Layers → List ℕ
layers_text values l =
    flat_map (head_line values) l.apart.heads ++ (payload_line l.apart.payload ++ (flat_map tail_line l.apart.tails ++ stop_line l.stop))

-- what was decided of a packet, and its layers without their values
abbrev pub explained : Decision → Layers → List ℕ
explained decision layers = result_of decision ++ (10 ∷ [] ++ layers_text Hidden layers)
