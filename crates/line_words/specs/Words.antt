-- Words of a line, with one space between two. It states no standard.
use Rattle.std.specs.Prelude.{ℕ, List}
use Rattle.line_words.specs.Splits.{before_octet, behind_octet}

-- what stands before the first space, or all of it
abbrev pub word : List ℕ → List ℕ
word text = before_octet 32 text

-- what stands behind the first space, or nothing
abbrev pub behind : List ℕ → List ℕ
behind text = behind_octet 32 text
