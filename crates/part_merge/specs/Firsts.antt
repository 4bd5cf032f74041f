-- The part whose event comes next. It serves proofs.
use Rattle.std.specs.Prelude.{◌≡◌, ◌<◌, ◌≤◌, ⊤, ℕ, List, slice_index_or, Option, Some, None}
use Rattle.part_merge.specs.Coming.{OpenPart}
use Rattle.part_merge.specs.declared.first.First.{First}
use Rattle.part_merge.specs.declared.coming.Coming.{Coming}
use Rattle.part_merge.specs.declared.coming.Coming.TheVariants.{Event, Cut, Nothing}

-- no event of this number or of one below it comes; none of one below it
abbrev pub IsLater : ℕ → Coming → Type 0
IsLater n (Event m) = n < m
IsLater n Cut = ⊤
IsLater n Nothing = ⊤

-- no event of a number below this one comes
abbrev pub IsNoSooner : ℕ → Coming → Type 0
IsNoSooner n (Event m) = n ≤ m
IsNoSooner n Cut = ⊤
IsNoSooner n Nothing = ⊤

-- no event comes
abbrev pub IsNone : Coming → Type 0
IsNone (Event m) = ⊥
IsNone Cut = ⊤
IsNone Nothing = ⊤

-- the event that comes first in so many parts: none has a smaller number, and those of the parts in front greater ones
pub record IsFirst (parts : List OpenPart) (count : ℕ) (first : First) : Type 0 where
  pub there : first.index < count
  pub next : (s : OpenPart) → (slice_index_or parts first.index s).coming ≡ Event first.number
  pub later : (s : OpenPart) (k : ℕ) → k < first.index → IsLater first.number (slice_index_or parts k s).coming
  pub no_sooner : (s : OpenPart) (k : ℕ) → k < count → IsNoSooner first.number (slice_index_or parts k s).coming

-- it was found, or there is none
abbrev pub FindsFirst : List OpenPart → ℕ → Option First → Type 0
FindsFirst parts count None = (s : OpenPart) (k : ℕ) → k < count → IsNone (slice_index_or parts k s).coming
FindsFirst parts count (Some first) = IsFirst parts count first
