-- Where an entry of a finite map stands, in the order of the keys. It serves proofs.
use Rattle.std.specs.Prelude.{◌≡◌, ℕ, ◌<◌, ◌≤◌, length}
use Rattle.std.specs.List.{HoldsAt, AllWithin}
use Rattle.std.specs.declared.cmp.Ordering.{Ordering}
use Rattle.std.specs.declared.cmp.Ordering.TheVariants.{Less, Equal, Greater}
use Rattle.std.specs.FinMap.{FinMap, entries}

-- the entry at this place has this key
abbrev pub IsAt : {K X : Type 0} {R : K → K → Ordering} → FinMap R X → K → ℕ → Type 0
IsAt {R = R} m k at = (at < length (entries m)) × HoldsAt (λ e. R e.0 k ≡ Equal) (entries m) at

-- the keys before this place are below this key, and those from it on above it
abbrev pub IsGapFor : {K X : Type 0} {R : K → K → Ordering} → FinMap R X → K → ℕ → Type 0
IsGapFor {R = R} m k at = (at ≤ length (entries m)) × AllWithin (λ e. R e.0 k ≡ Less) (entries m) 0 at
    × AllWithin (λ e. R e.0 k ≡ Greater) (entries m) at (length (entries m))
