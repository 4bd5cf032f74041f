-- Whoever looks on beside another, where one is wanted. It states no standard.
use Rattle.std.specs.Prelude.{Option, Some, None}

-- where someone looks on, this leaves what it is then, and nobody comes or goes
abbrev pub WhereWanted : {T : Type 0} → (T → T → Type 0) → Option T → Option T → Type 0
WhereWanted step (Some old) (Some new) = step old new
WhereWanted step (Some old) None = ⊥
WhereWanted step None (Some new) = ⊥
WhereWanted step None None = Unit {0}
