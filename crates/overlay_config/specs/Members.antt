-- The items of `segment.k.untagged` and `segment.k.tagged`. It states no standard.
use Rattle.std.specs.Prelude.{◌≤◌, ℕ, List, [], ◌∷◌, ◌++◌, ◌||◌, nat_eq, IsTrue, if◌then◌else◌, Option, Some, None, option_and_then}
use Rattle.std.specs.List.{IsDistinct}
use Rattle.toml.specs.Data.{Data}
use Rattle.config_text.specs.Column.{range}
use Rattle.overlay.specs.Settings.{is_member}

-- members with one more port, which stands neither among them nor on the other list
abbrev pub with_member : List ℕ → List ℕ → ℕ → Option (List ℕ)
with_member other members port = if is_member members port || is_member other port then None else Some (members ++ port ∷ [])

-- a list with the port that a value tells
abbrev pub put_member : ℕ → List ℕ → List ℕ → Data → Option (List ℕ)
put_member ports other members d = option_and_then (with_member other members) (range 1 ports d)

-- numbers of ports, 1 to 255, none twice
abbrev pub ArePortNumbers : List ℕ → Type 0
ArePortNumbers members = IsDistinct nat_eq members × ((port : ℕ) → IsTrue (is_member members port) → (1 ≤ port) × (port ≤ 255))
