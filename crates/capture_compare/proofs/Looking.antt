-- The first record that is near, by where it stands.
use Rattle.std.proofs.Common.{◌≡◌, ◌∙◌, refl, sym, ap, ℕ, zero, suc, ◌+◌, ◌<◌, ◌≤◌, min, List, [], ◌∷◌, ◌++◌, length, take, drop, Option, Some, None, inl, inr, arith}
use Rattle.std.specs.List.{remove}
use Rattle.std.proofs.lemmas.Bool.{cases_lt}
use Rattle.std.proofs.lemmas.List.{get_or-take, length-take, take-append-drop}
use Rattle.std.proofs.lemmas.List.Edits.{remove-append_left}
use Rattle.record_match.specs.Match.{Record}
use Rattle.capture_compare.specs.Looking.{FindsNear, IsFirstNear, alone_at}
use Rattle.capture_compare.specs.Near.{Alone, left_at, left_by, near_at, near_by, near_in, near_or, since, without}
use Rattle.capture_compare.specs.declared.lonely.difference.Difference.{Difference}
use Rattle.capture_compare.specs.declared.lonely.near.Named.{Named}
use Rattle.capture_compare.specs.declared.lonely.segment.Reading.{Reading}

pub first-near : (reading : Reading) (within : ℕ) (sent : Record) (held : List Alone) (i : ℕ) (d : Difference) → IsFirstNear reading within sent held i d
    → (near_in reading within sent held ≡ Some (record { number = (alone_at sent held i).number; difference = d })) × (without reading within sent held ≡ remove held i)
first-near reading within sent [] i d is = absurd (omega (arith, is.inside))
first-near reading within sent (a ∷ held) zero d is = (
  ap (λ (o : Option Difference). near_or a.number o (near_in reading within sent held)) is.here,
  ap (λ (o : Option Difference). left_by o a held (without reading within sent held)) is.here,
)
first-near reading within sent (a ∷ held) (suc i) d is =
    let none = is.before 0 (omega arith) in
    let others = first-near reading within sent held i d (record { inside = omega (arith, is.inside); before = λ k lt. is.before (suc k) (omega (arith, lt)); here = is.here }) in (
      ap (λ (o : Option Difference). near_or a.number o (near_in reading within sent held)) none ∙ others.0,
      ap (λ (o : Option Difference). left_by o a held (without reading within sent held)) none ∙ ap (λ (l : List Alone). a ∷ l) others.1,
    )

pub none-near : (reading : Reading) (within : ℕ) (sent : Record) (held : List Alone) → FindsNear reading within sent held None
    → (near_in reading within sent held ≡ None) × (without reading within sent held ≡ held)
none-near reading within sent [] none = (refl, refl)
none-near reading within sent (a ∷ held) none =
    let first = none 0 (omega arith) in
    let others = none-near reading within sent held (λ k lt. none (suc k) (omega (arith, lt))) in (
      ap (λ (o : Option Difference). near_or a.number o (near_in reading within sent held)) first ∙ others.0,
      ap (λ (o : Option Difference). left_by o a held (without reading within sent held)) first ∙ ap (λ (l : List Alone). a ∷ l) others.1,
    )

-- none up to a number, and none at it
pub none_up_to : (f : ℕ → Option Difference) (i : ℕ) → ((k : ℕ) → k < i → f k ≡ None) → f i ≡ None → (k : ℕ) → k < i + 1 → f k ≡ None
none_up_to f i before here k below = elim (cases_lt k i) [
  | inl less ↦ before k less
  | inr more ↦ let e : k ≡ i = omega (arith, below, more) in ap f e ∙ here
]

-- ---- the first ones of some

-- one of them is that of all
pub first-is : (sent : Record) (n i : ℕ) (held : List Alone) → i < length (take n held) → alone_at sent (take n held) i ≡ alone_at sent held i
first-is sent n i held h = get_or-take n held i (record { number = 0; seen = sent }) (omega (arith, h, length-take n held))

-- one goes from the first ones, and so from all
pub first-goes : (n i : ℕ) (held : List Alone) → i < length (take n held) → remove (take n held) i ++ drop n held ≡ remove held i
first-goes n i held h = sym (remove-append_left (take n held) (drop n held) i h) ∙ ap (λ (l : List Alone). remove l i) (take-append-drop n held)

pub inside-all : (n i : ℕ) (held : List Alone) → i < length (take n held) → i < length held
inside-all n i held h = omega (arith, h, length-take n held)

-- the first one that is near of all is so of the first ones
pub in-first : (reading : Reading) (within : ℕ) (sent : Record) (held : List Alone) (i : ℕ) (d : Difference) → i < 256 → i < length held
    → ((k : ℕ) → k < i → near_by reading within sent (alone_at sent held k).seen ≡ None) → near_by reading within sent (alone_at sent held i).seen ≡ Some d
    → IsFirstNear reading within sent (take 256 held) i d
in-first reading within sent held i d few lt before here =
    let inside : i < length (take 256 held) = omega (arith, few, lt, length-take 256 held) in
    record {
      inside = inside;
      before = λ k l. ap (λ (a : Alone). near_by reading within sent a.seen) (first-is sent 256 k held (omega (arith, l, inside))) ∙ before k l;
      here = ap (λ (a : Alone). near_by reading within sent a.seen) (first-is sent 256 i held inside) ∙ here;
    }

pub none-first : (reading : Reading) (within : ℕ) (sent : Record) (held : List Alone) (i : ℕ) → min (length held) 256 ≤ i
    → ((k : ℕ) → k < i → near_by reading within sent (alone_at sent held k).seen ≡ None) → FindsNear reading within sent (take 256 held) None
none-first reading within sent held i all before k lt =
    ap (λ (a : Alone). near_by reading within sent a.seen) (first-is sent 256 k held lt) ∙ before k (omega (arith, lt, all, length-take 256 held))

-- ---- the one that is named

pub named-at : (reading : Reading) (within : ℕ) (sent : Record) (held now : List Alone) (i : ℕ) (d : Difference) (n : ℕ) → now ≡ since sent.moment held
    → IsFirstNear reading within sent (take 256 now) i d → n ≡ (alone_at sent now i).number
    → (Some (record { number = n; difference = d }) ≡ near_at reading within sent held) × (remove now i ≡ left_at reading within sent held)
named-at reading within sent held now i d n is first number =
    let found = first-near reading within sent (take 256 now) i d first in
    let own : n ≡ (alone_at sent (take 256 now) i).number = number ∙ ap (λ (a : Alone). a.number) (sym (first-is sent 256 i now first.inside)) in (
      ap (λ (m : ℕ). Some (named m)) own ∙ sym found.0 ∙ ap (λ (l : List Alone). near_in reading within sent (take 256 l)) is,
      sym (first-goes 256 i now first.inside) ∙ ap (λ (l : List Alone). l ++ drop 256 now) (sym found.1)
          ∙ ap (λ (l : List Alone). without reading within sent (take 256 l) ++ drop 256 l) is,
    )
  where
    named : ℕ → Named
    named m = record { number = m; difference = d }

pub none-named : (reading : Reading) (within : ℕ) (sent : Record) (held now : List Alone) → now ≡ since sent.moment held → FindsNear reading within sent (take 256 now) None
    → (None ≡ near_at reading within sent held) × (now ≡ left_at reading within sent held)
none-named reading within sent held now is none =
    let found = none-near reading within sent (take 256 now) none in (
      sym found.0 ∙ ap (λ (l : List Alone). near_in reading within sent (take 256 l)) is,
      sym (take-append-drop 256 now) ∙ ap (λ (l : List Alone). l ++ drop 256 now) (sym found.1)
          ∙ ap (λ (l : List Alone). without reading within sent (take 256 l) ++ drop 256 l) is,
    )
