-- Where an octet stands first in a text, from a place on. It states no standard.
use Rattle.std.specs.Prelude.{◌≡◌, ◌≢◌, ◌<◌, ◌≤◌, ℕ, List, length, slice_index}

-- from there on it stands nowhere
abbrev pub LacksFrom : ℕ → List ℕ → ℕ → Type 0
LacksFrom octet text from = (k : ℕ) → from ≤ k → k < length text → slice_index text k ≢ octet

-- it stands at this place, and not between the two
pub record IsFirst (octet : ℕ) (text : List ℕ) (from at : ℕ) : Type 0 where
  pub low : from ≤ at
  pub inside : at < length text
  pub here : slice_index text at ≡ octet
  pub before : (k : ℕ) → from ≤ k → k < at → slice_index text k ≢ octet
