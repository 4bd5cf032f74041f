-- Laws of sums. It states no standard.
use Rattle.std.specs.Prelude.{◌≢◌, ◌<◌, ℕ, List, ◌∷◌, ◌++◌}
use Rattle.octet_sums.specs.Sums.{first_sum}

-- of two texts that differ in one octet the words have other sums
abbrev pub NoticesAnOctet : Type 0
NoticesAnOctet =
    (front back : List ℕ) (a b : ℕ) → a < 256 → b < 256 → a ≢ b → first_sum (front ++ a ∷ back) ≢ first_sum (front ++ b ∷ back)
