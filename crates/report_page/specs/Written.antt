-- What a call writes through a reference. It states no standard.
use Rattle.std.specs.Prelude.{◌≡◌, ℕ, List, Option}
use Rattle.std.specs.Io.KnownBytes.{Appends}

-- a text was appended, and the reference is the same as before
abbrev pub AppendsThere : {N : Type 0} → Option (List ℕ) → Option (List ℕ) → N → N → List ℕ → Type 0
AppendsThere old new old_name new_name text = Appends old new text × (new_name ≡ old_name)
