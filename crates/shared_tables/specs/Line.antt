-- A list of slots, linked both ways. It states no standard.
use Rattle.std.specs.Prelude.{◌≡◌, ℕ, Bool, false, ◌||◌, List, [], ◌∷◌, length, Option, Some, None, nat_eq, if◌then◌else◌}
use Rattle.std.specs.List.{sum_by}
use Rattle.shared_tables.specs.declared.links.Links.{Links}
use Rattle.shared_tables.specs.Pool.{Held}
use Rattle.shared_tables.specs.Pool.{links_at, entry_at}

-- the first of a list, or what comes behind it
abbrev pub first_of : List ℕ → Option ℕ → Option ℕ
first_of [] after = after
first_of (i ∷ is) after = Some i

-- the last of a list, or what comes before it
abbrev pub last_of : List ℕ → Option ℕ → Option ℕ
last_of [] before = before
last_of (i ∷ is) before = last_of is (Some i)

-- the slots are each other's neighbours, in this order, between these two
abbrev pub IsLinked : List Links → Option ℕ → List ℕ → Option ℕ → Type 0
IsLinked links before [] after = Unit {0}
IsLinked links before (i ∷ is) after = (links_at links i ≡ record { previous = before; next = first_of is after })
    × IsLinked links (Some i) is after

-- a slot is on the list
abbrev pub is_on : ℕ → List ℕ → Bool
is_on i [] = false
is_on i (j ∷ is) = nat_eq i j || is_on i is

-- no slot stands twice
abbrev pub IsApart : List ℕ → Type 0
IsApart [] = Unit {0}
IsApart (i ∷ is) = (is_on i is ≡ false) × IsApart is

-- 1 where the test passes
abbrev pub weight : (Option Held → Bool) → Option Held → ℕ
weight key entry = if key entry then 1 else 0

-- the thread that begins and ends with these two slots runs through the slots whose entries pass the test, each once,
-- in the order of the list
pub record IsThread (links : List Links) (entries : List (Option Held))
    (key : Option Held → Bool) (first last : Option ℕ) (is : List ℕ) : Type 0 where
  pub linked : IsLinked links None is None
  pub apart : IsApart is
  pub members : (i : ℕ) → is_on i is ≡ key (entry_at entries i)
  pub size : length is ≡ sum_by (weight key) entries
  pub begins : first ≡ first_of is None
  pub ends : last ≡ last_of is None
