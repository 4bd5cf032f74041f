-- What makes a folded sum the one's complement sum (RFC 1071, 1 and 4.1), as laws.
use Rattle.std.specs.Prelude.{◌≡◌, ℕ, ◌<◌, ◌+◌, ◌*◌, ◌/◌, ◌%◌, List, ◌∷◌, ◌++◌, length}
use Rattle.wire.specs.Octets.{octets}
use Rattle.wire.specs.Sum.{total, folded, check}

-- a sum of 16 bits is folded already
abbrev pub WordsStay : Type 0
WordsStay = (s : ℕ) → s < 65536 → folded s ≡ s

-- the carries, which stand above the low 16 bits, are added to these
abbrev pub CarriesAreAdded : Type 0
CarriesAreAdded = (s : ℕ) → folded s ≡ folded (s / 65536 + s % 65536)

-- a text with its checksum put in, at an even place, sums up to all ones
abbrev pub ChecksumsComplete : Type 0
ChecksumsComplete = (k : ℕ) (a b : List ℕ) → length a ≡ 2 * k
    → folded (total (a ++ (octets 2 (check (a ++ 0 ∷ 0 ∷ b)) ++ b))) ≡ 65535
