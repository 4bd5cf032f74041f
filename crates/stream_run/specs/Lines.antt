-- A line that is made piece by piece. It serves proofs.
use Rattle.std.specs.Prelude.{◌≡◌, ◌≤◌, ⊤, ℕ, ◌+◌, List, ◌++◌, length, Result, Ok, Err}

module _ {T E : Type 0} where
  -- this stands behind what stood; there is no more than 59,059 octets of it
  abbrev pub LineLeads : List ℕ → List ℕ → List ℕ → Result T E → Type 0
  LineLeads old new text (Ok x) = (new ≡ old ++ text) × (length new ≤ length old + 59059)
  LineLeads old new text (Err e) = ⊤
