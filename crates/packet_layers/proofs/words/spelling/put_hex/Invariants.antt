use Rattle.std.proofs.Common.{◌≡◌, ◌++◌, drop}
use Rattle.std.specs.List.{flat_map}
use Rattle.std.specs.String.{string_bytes}
use Rattle.packet_layers.specs.Text.{hex_octet, hex_text}
use Rattle.packet_layers.proofs.words.spelling.put_hex.Given as goal

-- with what is left put too, it is all
abbrev pub invariant-loop-octet : goal.invariant-loop-octet
invariant-loop-octet l = string_bytes l.text ++ flat_map hex_octet (drop l.octet-index l.octets) ≡ string_bytes l.fn.text ++ hex_text l.octets
