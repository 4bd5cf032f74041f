-- Four words of a block's schedule side by side, and rotations of a word (FIPS 180-4, 6.2.2).
use Rattle.std.specs.Prelude.{ℕ, ◌+◌, List, [], ◌∷◌, bit_xor, slice_index}
use Rattle.std.specs.Int.{w32, rotate_right}
use Rattle.sha2.specs.Sha256.{add32, round_constants}

-- the four words from this place on
abbrev pub four : List ℕ → ℕ → List ℕ
four words t =
    slice_index words t ∷ slice_index words (t + 1) ∷ slice_index words (t + 2) ∷ slice_index words (t + 3) ∷ []

-- three rotations of a word, added without carries (4.1.2)
abbrev pub rotations : ℕ → ℕ → ℕ → ℕ → ℕ
rotations word a b c = bit_xor (bit_xor (rotate_right w32 word a) (rotate_right w32 word b)) (rotate_right w32 word c)

-- the word at a place with that round's constant added
abbrev pub keyed : List ℕ → ℕ → ℕ
keyed words t = add32 (slice_index words t) (slice_index round_constants t)

-- the four of them from this place on
abbrev pub four_keyed : List ℕ → ℕ → List ℕ
four_keyed words t = keyed words t ∷ keyed words (t + 1) ∷ keyed words (t + 2) ∷ keyed words (t + 3) ∷ []
