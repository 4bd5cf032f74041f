-- A text, split at the first place of an octet. It states no standard.
use Rattle.std.specs.Prelude.{ℕ, ◌==◌, List, [], ◌∷◌, if◌then◌else◌}

-- what stands before that octet, or all of it
abbrev pub before_octet : ℕ → List ℕ → List ℕ
before_octet stop [] = []
before_octet stop (c ∷ cs) = if c == stop then [] else c ∷ before_octet stop cs

-- what stands behind it, or nothing
abbrev pub behind_octet : ℕ → List ℕ → List ℕ
behind_octet stop [] = []
behind_octet stop (c ∷ cs) = if c == stop then cs else behind_octet stop cs
