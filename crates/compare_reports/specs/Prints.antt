-- One text, printed. It states no standard.
use Rattle.std.specs.Prelude.{◌≡◌, ℕ, Bool, true, false, List, Option, None, Some}

-- a text, unless there is nothing to tell
abbrev pub unless : Bool → List ℕ → Option (List ℕ)
unless true text = None
unless false text = Some text

module _ {P : Type 0} (prints : P → List ℕ → P → Type 0) where
  -- a text was printed, or there is none
  abbrev pub Prints : P → Option (List ℕ) → P → Type 0
  Prints old None new = new ≡ old
  Prints old (Some text) new = prints old text new
