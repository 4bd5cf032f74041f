-- Checksums that a sender left to its network card: the sum of the pseudo header alone (RFC 768; RFC 8200, 8.1).
use Rattle.std.specs.Prelude.{◌&&◌, Bool, List, ℕ, is_none}
use Rattle.wire.specs.First.{first}
use Rattle.wire.specs.Datagram.{datagram_reasons}
use Rattle.wire.specs.Udp.{is_partial}
use Rattle.decapsulate.specs.Arrival.{packet_in, sum_of}

-- b is a frame with a whole UDP datagram in it, and that has such a checksum
abbrev pub is_left_to_card : List ℕ → Bool
is_left_to_card b = is_none (first (datagram_reasons b)) && is_partial (sum_of (packet_in b))
