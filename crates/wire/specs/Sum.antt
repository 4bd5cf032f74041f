-- The Internet checksum: RFC 1071, 1; RFC 791, 3.1 (header checksum); RFC 768 (checksum); RFC 8200, 8.1.
use Rattle.std.specs.Prelude.{ℕ, zero, suc, ◌+◌, ◌-◌, ◌*◌, ◌%◌, ◌==◌, if◌then◌else◌, List, [], ◌∷◌, ◌++◌, take, drop}
use Rattle.wire.specs.Octets.{octets}

-- the sum of the 16-bit words of a text, an odd end padded with zero
abbrev pub total : List ℕ → ℕ
total [] = 0
total (a ∷ []) = 256 * a
total (a ∷ b ∷ rest) = 256 * a + b + total rest

-- a sum folded to 16 bits by adding its carries: 0 for 0 alone, else ((s - 1) mod 65535) + 1
abbrev pub folded : ℕ → ℕ
folded zero = 0
folded (suc s) = s % 65535 + 1

-- the one's complement of a folded sum
abbrev pub complement : ℕ → ℕ
complement s = 65535 - folded s

-- the checksum of a text: the one's complement of the one's complement sum of its words
abbrev pub check : List ℕ → ℕ
check b = complement (total b)

-- a UDP checksum as it is sent: a computed 0 is sent as all ones, since 0 means that there is no checksum
abbrev pub sent_of : ℕ → ℕ
sent_of c = if c == 0 then 65535 else c

-- the checksum of a text as UDP sends it
abbrev pub sent : List ℕ → ℕ
sent b = sent_of (check b)

-- an IPv4 header with the two octets of its checksum taken as zero
abbrev pub blanked4 : List ℕ → List ℕ
blanked4 header = take 10 header ++ 0 ∷ 0 ∷ drop 12 header

-- the pseudo header that goes before a UDP datagram of a length, over IPv4 and over IPv6
abbrev pub pseudo4 : List ℕ → List ℕ → ℕ → List ℕ
pseudo4 src dst len = src ++ dst ++ 0 ∷ 17 ∷ octets 2 len

-- the same over IPv6 (RFC 8200, 8.1)
abbrev pub pseudo6 : List ℕ → List ℕ → ℕ → List ℕ
pseudo6 src dst len = src ++ dst ++ octets 4 len ++ 0 ∷ 0 ∷ 0 ∷ 17 ∷ []
