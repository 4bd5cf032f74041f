-- The words of a line, and the outcomes among them: PLACE=LENGTH and PLACE!NAME. It states no standard.
use Rattle.std.specs.Prelude.{ℕ, ◌==◌, Bool, ◌||◌, List, if◌then◌else◌, is_some, slice_index}
use Rattle.std.specs.List.{slice_split, join_with_byte, before_first, after_first, position_or_len}
use Rattle.line_words.specs.Numbers.{number_of}

-- the words of a line: what stands between its spaces
abbrev pub words : List ℕ → List (List ℕ)
words line = slice_split (λ c. c == 32) line

-- the line of these words
abbrev pub joined : List (List ℕ) → List ℕ
joined ws = join_with_byte 32 ws

-- a number in decimal digits
abbrev pub is_number : List ℕ → Bool
is_number w = is_some (number_of w)

-- '=' or '!'
abbrev pub is_mark : ℕ → Bool
is_mark c = (c == 61) || (c == 33)

-- the first mark of a word, or 0
abbrev pub mark_in : List ℕ → ℕ
mark_in w = slice_index w (position_or_len is_mark w)

-- what stands before it
abbrev pub place_in : List ℕ → List ℕ
place_in w = before_first is_mark w

-- what stands behind it
abbrev pub behind_mark : List ℕ → List ℕ
behind_mark w = after_first is_mark w

-- a number stands behind a '=', and anything behind a '!'
abbrev pub is_outcome : List ℕ → Bool
is_outcome w = if mark_in w == 61 then is_number (behind_mark w) else mark_in w == 33
