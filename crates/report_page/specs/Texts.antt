-- Texts one behind another. It states no standard.
use Rattle.std.specs.Prelude.{ℕ, List, ◌++◌}
use Rattle.std.specs.List.{flat_map, range_with_len}

-- a text and then another
infixr 65 ◌then◌
abbrev pub ◌then◌ : List ℕ → List ℕ → List ℕ
a then b = a ++ b

-- the texts of so many numbers, from 0 on
unfoldable pub each : (ℕ → List ℕ) → ℕ → List ℕ
each text count = flat_map text (range_with_len 0 count)
