-- What goes for want of room.
use Rattle.std.proofs.Common.{◌≡◌, ℕ, ◌<◌, ◌-◌, Bool, true, false, if◌then◌else◌, List, [], ◌∷◌, ◌++◌, length, drop, slice_index_or, refl, arith}
use Rattle.echo_window.specs.Echo.{Arrival, Record, age_at, crowded_by, crowded_out, first_met, fits, is_met_everywhere, with_ages}
use Rattle.echo_window.specs.declared.forgotten.Forgotten.{Forgotten}

-- nothing where all fit
pub crowded-none : (f : Forgotten) (cs : List Arrival) (r : Record) → fits (cs ++ first_met r ∷ []) ≡ true → with_ages f (crowded_by cs r) ≡ f
crowded-none f [] r h = rw h
crowded-none f (c ∷ cs) r h = rw h

-- one that may be counted, and others behind it
with_one : (f : Forgotten) (q : Bool) (age : ℕ) (more : List ℕ) → with_ages (with_ages f (if q then [] else age ∷ [])) more ≡ with_ages f ((if q then [] else age ∷ []) ++ more)
with_one f true age more = refl
with_one f false age more = refl

-- the earliest where they don't, and what goes of the others
pub crowded-first : (f : Forgotten) (cs : List Arrival) (r : Record) → 0 < length cs → fits (cs ++ first_met r ∷ []) ≡ false
    → with_ages (with_ages f (age_at r.moment (slice_index_or cs 0 (first_met r)))) (crowded_by (drop 1 cs) r) ≡ with_ages f (crowded_by cs r)
crowded-first f [] r h n = absurd (omega (arith, h))
crowded-first f (c ∷ cs) r h n = rw n (with_one f (is_met_everywhere c) (r.moment - c.moment) (crowded_out r.moment (cs ++ first_met r ∷ [])))

-- a record that doesn't fit alone
pub crowded-alone : (f : Forgotten) (r : Record) (q : Bool) → q ≡ is_met_everywhere (first_met r) → fits (first_met r ∷ []) ≡ false
    → with_ages f (if q then [] else 0 ∷ []) ≡ with_ages f (crowded_by [] r)
crowded-alone f r q is h = let none : r.moment - r.moment ≡ 0 = omega arith in rw (h, none, is) (one (is_met_everywhere (first_met r)))
  where
    one : (p : Bool) → with_ages f (if p then [] else 0 ∷ []) ≡ with_ages f ((if p then [] else 0 ∷ []) ++ [])
    one true = refl
    one false = refl
