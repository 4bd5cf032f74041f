-- The lines of a summary that tell what passed by tunnels stand behind all others. It states no standard.
use Rattle.std.specs.Prelude.{◌≡◌, ◌≢◌, ◌<◌, ◌≤◌, ℕ, ◌-◌, ◌||◌, Bool, true, false, List, ◌++◌, length, drop, slice_index, codes}
use Rattle.wire.specs.Octets.{is_same}
use Rattle.line_words.specs.Words.{word}

-- such a line begins a text
abbrev pub begins : List ℕ → Bool
begins text = is_same (word text) (codes "unknown") || is_same (word text) (codes "remote")

-- a line begins at a place
abbrev pub IsLine : List ℕ → ℕ → Type 0
IsLine text at = 0 < at → slice_index text (at - 1) ≡ 10

-- the line that begins at a place ends there: behind its line feed, or with the text
pub record IsLineEnd (text : List ℕ) (at end : ℕ) : Type 0 where
  pub later : at < end
  pub inside : end ≤ length text
  pub whole : end < length text → slice_index text (end - 1) ≡ 10
  pub one : (k : ℕ) → at < k → k < end → slice_index text (k - 1) ≢ 10

-- the second part begins with the first of these lines, or is empty
pub record IsParted (text counts tunnels : List ℕ) : Type 0 where
  pub whole : text ≡ counts ++ tunnels
  pub line : 0 < length tunnels → IsLine text (length counts)
  pub begin : 0 < length tunnels → begins tunnels ≡ true
  pub first : (k : ℕ) → k < length counts → IsLine text k → begins (drop k text) ≡ false
