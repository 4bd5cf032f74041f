-- The format of numbers in lines of text: decimal digits without leading zeros, below 2 ^ 64. It states no standard.
use Rattle.std.specs.Prelude.{◌≡◌, ◌<◌, ℕ, ◌+◌, ◌-◌, ◌*◌, ◌^◌, ◌==◌, nat_le, nat_lt, Bool, ◌&&◌}
use Rattle.std.specs.Prelude.{List, [], ◌∷◌, length, decimal, if◌then◌else◌, Option, Some, None}
use Rattle.std.specs.Option.{option_and_then}

-- '0' to '9'
abbrev pub is_digit : ℕ → Bool
is_digit c = nat_le 48 c && nat_le c 57

-- the number that digits write behind those that wrote n
abbrev pub number_after : ℕ → List ℕ → Option ℕ
number_after n [] = Some n
number_after n (c ∷ cs) = if is_digit c && nat_lt (10 * n + (c - 48)) (2 ^ 64) then number_after (10 * n + (c - 48)) cs else None

-- the number that a text writes
abbrev pub number_of : List ℕ → Option ℕ
number_of [] = None
number_of (c ∷ cs) = if (c == 48) && nat_lt 0 (length cs) then None else number_after 0 (c ∷ cs)

-- a number of 8 bits
abbrev pub byte_of : ℕ → Option ℕ
byte_of number = if nat_lt number 256 then Some number else None

-- the one that a text writes in decimal digits
abbrev pub octet_of : List ℕ → Option ℕ
octet_of text = option_and_then byte_of (number_of text)

-- a law: it is the number whose decimal text this is
abbrev pub ReadsDecimals : Type 0
ReadsDecimals = (n : ℕ) → n < 2 ^ 64 → number_of (decimal n) ≡ Some n

-- a law: from no other text is it read
abbrev pub WritesDecimals : Type 0
WritesDecimals = (text : List ℕ) (n : ℕ) → number_of text ≡ Some n → (n < 2 ^ 64) × (text ≡ decimal n)
