-- Numbers that say where to look.
use Rattle.std.proofs.Common.{◌≡◌, ◌≢◌, ◌⊎◌, inl, inr, ℕ, ◌+◌, ◌<◌, ◌≤◌, max, nat_lt, nat_le, Bool, true, false, eqb, List, [], ◌∷◌, ◌++◌, length, get_or, set, refl, sym, ap, ◌∙◌, suc, subst, arith, length-append, length-set}
use Rattle.std.proofs.lemmas.List.{get_or_append_left, get_or-set_other}
use Rattle.std.proofs.Math.Seq.{get_or-append_seam}
use borrow.Author.Tests.{leb-false, ltb-false, ltb-true}
use Rattle.std.proofs.lemmas.Bool.Decides.{eqb_tells}
use Rattle.std.proofs.lemmas.Grind.{get_or-set_at}
use Rattle.record_match.specs.Kept.{IsIndexed, NoneBehind, NoneBetween, behind, ends_with, ends_without}
use Rattle.record_match.specs.declared.kept.Ends.{Ends}
use Rattle.record_match.specs.declared.kept.Kept.{Kept}

-- ---- how two numbers stand

pub data Order (m n : ℕ) : Type 0 where
  Less : m < n → Order m n
  Same : m ≡ n → Order m n
  More : n < m → Order m n

pub in_order : (m n : ℕ) → Order m n
in_order m n = by (nat_lt m n) (nat_lt n m) refl refl
  where
    by : (p q : Bool) → nat_lt m n ≡ p → nat_lt n m ≡ q → Order m n
    by true q h g = Less (ltb-true m n h)
    by false true h g = More (ltb-true n m g)
    by false false h g = Same (omega (arith, ltb-false m n h, ltb-false n m g))

-- ---- the ends of one bucket, in place of others

pub at-set : (P : ℕ → Ends → Type 0) (ends : List Ends) (b : ℕ) (x : Ends) → ((a : ℕ) (e : Ends) → a < length ends → a ≢ b → P a (get_or ends a e)) → P b x
    → (a : ℕ) (e : Ends) → a < length (set ends b x) → P a (get_or (set ends b x) a e)
at-set P ends b x all one a e lt = by (eqb_tells a b)
  where
    inside : a < length ends
    inside = omega (arith, lt, length-set ends b x)

    by : ((eqb a b ≡ true) × (a ≡ b)) ⊎ ((eqb a b ≡ false) × (a ≢ b)) → P a (get_or (set ends b x) a e)
    by (inl same) = subst (λ y. P a y) (sym (get_or-set_at ends b a x e same.1 (omega (arith, inside, same.1)))) (subst (λ n. P n x) (sym same.1) one)
    by (inr other) = subst (λ y. P a y) (sym (get_or-set_other ends b a x e other.1)) (all a e inside other.1)

-- ---- one record, in place of another of its bucket

pub between-set : (gone : ℕ) (ks : List Kept) (b low high i : ℕ) (x : Kept) → ((d : Kept) → x.bucket ≡ (get_or ks i d).bucket) → ((d : Kept) → (get_or ks i d).is_taken ≡ true → x.is_taken ≡ true)
    → NoneBetween gone ks b low high → NoneBetween gone (set ks i x) b low high
between-set gone ks b low high i x same more none j d lt lo hi is = by (eqb_tells j i)
  where
    inside : j < length ks
    inside = omega (arith, lt, length-set ks i x)

    by : ((eqb j i ≡ true) × (j ≡ i)) ⊎ ((eqb j i ≡ false) × (j ≢ i)) → (get_or (set ks i x) j d).is_taken ≡ true
    by (inl at) =
        let here = get_or-set_at ks i j x d at.1 (omega (arith, inside, at.1)) in
        let old = none j d inside lo hi (ap (λ n. (get_or ks n d).bucket) at.1 ∙ sym (same d) ∙ ap (λ (k : Kept). k.bucket) (sym here) ∙ is) in
        ap (λ (k : Kept). k.is_taken) here ∙ more d (ap (λ n. (get_or ks n d).is_taken) (sym at.1) ∙ old)
    by (inr away) =
        let here = get_or-set_other ks i j x d away.1 in
        ap (λ (k : Kept). k.is_taken) here ∙ none j d inside lo hi (ap (λ (k : Kept). k.bucket) (sym here) ∙ is)

-- numbers as they were
pub between-numbers : (gone : ℕ) (ks : List Kept) (b low high low' high' : ℕ) → low ≤ low' → high' ≤ high → NoneBetween gone ks b low high → NoneBetween gone ks b low' high'
between-numbers gone ks b low high low' high' l h none i d lt lo hi is = none i d lt (omega (arith, l, lo)) (omega (arith, h, hi)) is

-- one that was received, between two numbers
pub between-joined : (gone : ℕ) (ks : List Kept) (b mid high : ℕ) → ((i : ℕ) (d : Kept) → i < length ks → gone + i + 1 ≡ mid → (get_or ks i d).is_taken ≡ true)
    → NoneBetween gone ks b 0 mid → NoneBetween gone ks b mid high → NoneBetween gone ks b 0 high
between-joined gone ks b mid high here before after i d lt lo hi is = by (in_order (gone + i + 1) mid)
  where
    by : Order (gone + i + 1) mid → (get_or ks i d).is_taken ≡ true
    by (Less l) = before i d lt lo l is
    by (Same e) = here i d lt e
    by (More m) = after i d lt m hi is

-- ---- a record gets a next one

pub index-link : (gone : ℕ) (ks : List Kept) (ends : List Ends) (i : ℕ) (x : Kept) → IsIndexed gone ks ends → i < length ks → ((d : Kept) → i < length ks → x.bucket ≡ (get_or ks i d).bucket)
    → ((d : Kept) → i < length ks → (get_or ks i d).is_taken ≡ true → x.is_taken ≡ true) → NoneBetween gone ks x.bucket (gone + i + 1) x.next → x.next ≤ gone + length ks + 1 → IsIndexed gone (set ks i x) ends
index-link gone ks ends i x h inside same more none few = record {
  first = λ b e lt. between-set gone ks b 0 (get_or ends b e).first i x (λ d. same d inside) (λ d. more d inside) (h.first b e lt);
  last = λ b e lt. let n : gone + length (set ks i x) + 1 ≡ gone + length ks + 1 = omega (arith, length-set ks i x) in
      subst (λ n. NoneBetween gone (set ks i x) b (get_or ends b e).last n) (sym n) (between-set gone ks b (get_or ends b e).last (gone + length ks + 1) i x (λ d. same d inside) (λ d. more d inside) (h.last b e lt));
  next = λ j d lt. by j d lt (eqb_tells j i);
  known = λ j d lt. known j d lt (eqb_tells j i);
}
  where
    by : (j : ℕ) (d : Kept) → j < length (set ks i x) → ((eqb j i ≡ true) × (j ≡ i)) ⊎ ((eqb j i ≡ false) × (j ≢ i)) → NoneBetween gone (set ks i x) (get_or (set ks i x) j d).bucket (gone + j + 1) (get_or (set ks i x) j d).next
    by j d lt (inl at) =
        let here = get_or-set_at ks i j x d at.1 inside in
        subst (λ (k : Kept). NoneBetween gone (set ks i x) k.bucket (gone + j + 1) k.next) (sym here)
        (subst (λ n. NoneBetween gone (set ks i x) x.bucket (gone + n + 1) x.next) (sym at.1)
        (between-set gone ks x.bucket (gone + i + 1) x.next i x (λ d. same d inside) (λ d. more d inside) none))
    by j d lt (inr away) =
        let here = get_or-set_other ks i j x d away.1 in
        subst (λ (k : Kept). NoneBetween gone (set ks i x) k.bucket (gone + j + 1) k.next) (sym here)
        (between-set gone ks (get_or ks j d).bucket (gone + j + 1) (get_or ks j d).next i x (λ d. same d inside) (λ d. more d inside) (h.next j d (omega (arith, lt, length-set ks i x))))

    known : (j : ℕ) (d : Kept) → j < length (set ks i x) → ((eqb j i ≡ true) × (j ≡ i)) ⊎ ((eqb j i ≡ false) × (j ≢ i)) → (get_or (set ks i x) j d).next ≤ gone + length (set ks i x) + 1
    known j d lt (inl at) = omega (arith, ap (λ (k : Kept). k.next) (get_or-set_at ks i j x d at.1 inside), few, length-set ks i x)
    known j d lt (inr away) = omega (arith, ap (λ (k : Kept). k.next) (get_or-set_other ks i j x d away.1), h.known j d (omega (arith, lt, length-set ks i x)), length-set ks i x)

-- ---- a record was received

-- the last record of a bucket stays the same
last-without : (gone number next : ℕ) (e : Ends) → (ends_without gone number next e).last ≡ e.last
last-without gone number next e = by (eqb (max e.first (gone + 1)) number) refl
  where
    by : (q : Bool) → eqb (max e.first (gone + 1)) number ≡ q → (ends_without gone number next e).last ≡ e.last
    by true h = rw h refl
    by false h = rw h refl

-- none between the first number and that behind one that was received
first-without : (gone : ℕ) (ks : List Kept) (b number next : ℕ) (e : Ends) → ((i : ℕ) (d : Kept) → i < length ks → gone + i + 1 ≡ number → (get_or ks i d).is_taken ≡ true)
    → NoneBetween gone ks b 0 e.first → NoneBetween gone ks b number next → NoneBetween gone ks b 0 (ends_without gone number next e).first
first-without gone ks b number next e here before after = by (eqb_tells (max e.first (gone + 1)) number)
  where
    behind-none : NoneBetween gone ks b number (behind number next)
    behind-none i d lt lo hi is = after i d lt lo (omega (arith, lo, hi)) is

    by : ((eqb (max e.first (gone + 1)) number ≡ true) × (max e.first (gone + 1) ≡ number)) ⊎ ((eqb (max e.first (gone + 1)) number ≡ false) × (max e.first (gone + 1) ≢ number))
        → NoneBetween gone ks b 0 (ends_without gone number next e).first
    by (inl at) =
        let front : NoneBetween gone ks b 0 number = λ i d lt lo hi is. before i d lt lo (omega (arith, at.1, hi)) is in
        let all = between-joined gone ks b number (behind number next) here front behind-none in
        rw at.0 all
    by (inr other) = rw other.0 before

pub index-take : (gone : ℕ) (ks : List Kept) (ends : List Ends) (i : ℕ) (x : Kept) (e : Ends) → IsIndexed gone ks ends → i < length ks → ((d : Kept) → i < length ks → x.bucket ≡ (get_or ks i d).bucket)
    → ((d : Kept) → i < length ks → x.next ≡ (get_or ks i d).next) → x.is_taken ≡ true → x.bucket < length ends
    → IsIndexed gone (set ks i x) (set ends x.bucket (ends_without gone (gone + i + 1) x.next (get_or ends x.bucket e)))
index-take gone ks ends i x e h inside same next taken few =
    let none : NoneBetween gone ks x.bucket (gone + i + 1) x.next =
    subst (λ b. NoneBetween gone ks b (gone + i + 1) x.next) (sym (same x inside)) (subst (λ n. NoneBetween gone ks (get_or ks i x).bucket (gone + i + 1) n) (sym (next x inside)) (h.next i x inside)) in
    let linked = index-link gone ks ends i x h inside same (λ d lt t. taken) none (omega (arith, ap (λ n. n) (next x inside), h.known i x inside)) in
    let own = linked.next i x (omega (arith, inside, length-set ks i x)) in
    let at = get_or-set_at ks i i x x refl inside in
    let after : NoneBetween gone (set ks i x) x.bucket (gone + i + 1) x.next = subst (λ (k : Kept). NoneBetween gone (set ks i x) k.bucket (gone + i + 1) k.next) at own in
    let here : (j : ℕ) (d : Kept) → j < length (set ks i x) → gone + j + 1 ≡ gone + i + 1 → (get_or (set ks i x) j d).is_taken ≡ true =
    λ j d lt n. ap (λ (k : Kept). k.is_taken) (get_or-set_at ks i j x d (omega (arith, n)) inside) ∙ taken in
    record {
      first = at-set (λ b (y : Ends). NoneBetween gone (set ks i x) b 0 y.first) ends x.bucket (ends_without gone (gone + i + 1) x.next (get_or ends x.bucket e)) (λ a y lt _. linked.first a y lt)
          (first-without gone (set ks i x) x.bucket (gone + i + 1) x.next (get_or ends x.bucket e) here (linked.first x.bucket e few) after);
      last = at-set (λ b (y : Ends). NoneBehind gone (set ks i x) b y.last) ends x.bucket (ends_without gone (gone + i + 1) x.next (get_or ends x.bucket e)) (λ a y lt _. linked.last a y lt)
          (subst (λ n. NoneBehind gone (set ks i x) x.bucket n) (sym (last-without gone (gone + i + 1) x.next (get_or ends x.bucket e))) (linked.last x.bucket e few));
      next = linked.next;
      known = linked.known;
    }

-- ---- the first record goes

pub between-drop : (gone : ℕ) (k : Kept) (ks : List Kept) (b low high : ℕ) → NoneBetween gone (k ∷ ks) b low high → NoneBetween (gone + 1) ks b low high
between-drop gone k ks b low high none i d lt lo hi is = none (suc i) d (omega (arith, lt)) (omega (arith, lo)) (omega (arith, hi)) is

pub index-drop : (gone : ℕ) (k : Kept) (ks : List Kept) (ends : List Ends) (e : Ends) → IsIndexed gone (k ∷ ks) ends → k.bucket < length ends
    → IsIndexed (gone + 1) ks (set ends k.bucket (ends_without gone (gone + 1) k.next (get_or ends k.bucket e)))
index-drop gone k ks ends e h few =
    let b = k.bucket in
    let x = ends_without gone (gone + 1) k.next (get_or ends b e) in
    record {
      first = at-set (λ b (y : Ends). NoneBetween (gone + 1) ks b 0 y.first) ends b x (λ a e lt _. between-drop gone k ks a 0 (get_or ends a e).first (h.first a e lt)) (first-dropped (get_or ends b e) (h.first b e few));
      last = at-set (λ b (y : Ends). NoneBehind (gone + 1) ks b y.last) ends b x (λ a e lt _. λ i d l lo hi is. h.last a e lt (suc i) d (omega (arith, l)) (omega (arith, lo)) (omega (arith, hi)) is)
          (λ i d l lo hi is. h.last b e few (suc i) d (omega (arith, l)) (omega (arith, lo, last-without gone (gone + 1) k.next (get_or ends b e))) (omega (arith, hi)) is);
      next = λ j d lt. λ i dd l lo hi is. h.next (suc j) d (omega (arith, lt)) (suc i) dd (omega (arith, l)) (omega (arith, lo)) (omega (arith, hi)) is;
      known = λ j d lt. omega (arith, h.known (suc j) d (omega (arith, lt)));
    }
  where
    first-dropped : (y : Ends) → NoneBetween gone (k ∷ ks) k.bucket 0 y.first → NoneBetween (gone + 1) ks k.bucket 0 (ends_without gone (gone + 1) k.next y).first
    first-dropped y before = by (eqb (max y.first (gone + 1)) (gone + 1)) refl
      where
        by : (q : Bool) → eqb (max y.first (gone + 1)) (gone + 1) ≡ q → NoneBetween (gone + 1) ks k.bucket 0 (ends_without gone (gone + 1) k.next y).first
        by true at = rw at (λ i d lt lo hi is. h.next 0 k (omega arith) (suc i) d (omega (arith, lt)) (omega arith) (omega (arith, hi)) is)
        by false at = rw at (between-drop gone k ks k.bucket 0 y.first before)

-- ---- one more record

between-append : (gone : ℕ) (ks : List Kept) (k : Kept) (b low high : ℕ) → (gone + length ks + 1 < high → low < gone + length ks + 1 → k.bucket ≡ b → k.is_taken ≡ true)
    → NoneBetween gone ks b low high → NoneBetween gone (ks ++ k ∷ []) b low high
between-append gone ks k b low high away none i d lt lo hi is = by (eqb_tells i (length ks))
  where
    by : ((eqb i (length ks) ≡ true) × (i ≡ length ks)) ⊎ ((eqb i (length ks) ≡ false) × (i ≢ length ks)) → (get_or (ks ++ k ∷ []) i d).is_taken ≡ true
    by (inl last) =
        let here : get_or (ks ++ k ∷ []) i d ≡ k = ap (λ n. get_or (ks ++ k ∷ []) n d) last.1 ∙ get_or-append_seam ks k [] d in
        ap (λ (k : Kept). k.is_taken) here ∙ away (omega (arith, hi, last.1)) (omega (arith, lo, last.1)) (ap (λ (k : Kept). k.bucket) (sym here) ∙ is)
    by (inr other) =
        let inside : i < length ks = omega (arith, lt, length-append ks (k ∷ []), other.1) in
        let here = get_or_append_left ks (k ∷ []) d i inside in
        ap (λ (k : Kept). k.is_taken) here ∙ none i d inside lo hi (ap (λ (k : Kept). k.bucket) (sym here) ∙ is)

-- none before the first one once one more was sent
pub first-with : (gone : ℕ) (ks : List Kept) (b number : ℕ) (e : Ends) → number ≡ gone + length ks + 1 → NoneBetween gone ks b 0 e.first → NoneBehind gone ks b e.last → NoneBetween gone ks b 0 (ends_with gone number e).first
first-with gone ks b number e n before after = by (nat_lt gone e.last) (nat_le e.first e.last) refl refl
  where
    all : (e.last ≤ gone) ⊎ (e.last < e.first) → NoneBetween gone ks b 0 number
    all (inl l) i d lt lo hi is = after i d lt (omega (arith, l)) (omega (arith, hi, n)) is
    all (inr l) i d lt lo hi is = on (nat_lt e.last (gone + i + 1)) refl
      where
        on : (q : Bool) → nat_lt e.last (gone + i + 1) ≡ q → (get_or ks i d).is_taken ≡ true
        on true h = after i d lt (ltb-true e.last (gone + i + 1) h) (omega (arith, hi, n)) is
        on false h = before i d lt lo (omega (arith, l, ltb-false e.last (gone + i + 1) h)) is

    by : (p q : Bool) → nat_lt gone e.last ≡ p → nat_le e.first e.last ≡ q → NoneBetween gone ks b 0 (ends_with gone number e).first
    by false q h g = rw h (all (inl (ltb-false gone e.last h)))
    by true false h g = rw (h, g) (all (inr (omega (arith, leb-false e.first e.last g))))
    by true true h g = rw (h, g) (λ i d lt lo hi is. before i d lt lo (omega (arith, hi)) is)

pub index-put : (gone : ℕ) (ks : List Kept) (ends : List Ends) (k : Kept) (number : ℕ) (e : Ends) → IsIndexed gone ks ends → number ≡ gone + length ks + 1 → k.next ≡ 0 → k.bucket < length ends
    → NoneBetween gone ks k.bucket 0 (ends_with gone number e).first → (ends_with gone number e).first ≤ number
    → IsIndexed gone (ks ++ k ∷ []) (set ends k.bucket (ends_with gone number e))
index-put gone ks ends k number e h n none few own small =
    record {
      first = at-set (λ b (y : Ends). NoneBetween gone (ks ++ k ∷ []) b 0 y.first) ends k.bucket x
          (λ a y lt other. between-append gone ks k a 0 (get_or ends a y).first (λ _ _ is. absurd (other (sym is))) (h.first a y lt))
          (between-append gone ks k k.bucket 0 x.first (λ hi _ _. absurd (omega (arith, hi, small, n))) own);
      last = at-set (λ b (y : Ends). NoneBehind gone (ks ++ k ∷ []) b y.last) ends k.bucket x
          (λ a y lt other. behind-append a (get_or ends a y).last (λ is. absurd (other (sym is))) (h.last a y lt))
          (λ i d lt lo hi is. absurd (omega (arith, lo, lt, length-append ks (k ∷ []), n)));
      next = λ j d lt. next j d lt (eqb_tells j (length ks));
      known = λ j d lt. known j d lt (eqb_tells j (length ks));
    }
  where
    x : Ends
    x = ends_with gone number e

    behind-append : (b low : ℕ) → (k.bucket ≡ b → k.is_taken ≡ true) → NoneBehind gone ks b low → NoneBehind gone (ks ++ k ∷ []) b low
    behind-append b low away after i d lt lo hi is = by (eqb_tells i (length ks))
      where
        by : ((eqb i (length ks) ≡ true) × (i ≡ length ks)) ⊎ ((eqb i (length ks) ≡ false) × (i ≢ length ks)) → (get_or (ks ++ k ∷ []) i d).is_taken ≡ true
        by (inl last) =
            let here : get_or (ks ++ k ∷ []) i d ≡ k = ap (λ n. get_or (ks ++ k ∷ []) n d) last.1 ∙ get_or-append_seam ks k [] d in
            ap (λ (k : Kept). k.is_taken) here ∙ away (ap (λ (k : Kept). k.bucket) (sym here) ∙ is)
        by (inr other) =
            let inside : i < length ks = omega (arith, lt, length-append ks (k ∷ []), other.1) in
            let here = get_or_append_left ks (k ∷ []) d i inside in
            ap (λ (k : Kept). k.is_taken) here ∙ after i d inside lo (omega (arith, inside)) (ap (λ (k : Kept). k.bucket) (sym here) ∙ is)

    next : (j : ℕ) (d : Kept) → j < length (ks ++ k ∷ []) → ((eqb j (length ks) ≡ true) × (j ≡ length ks)) ⊎ ((eqb j (length ks) ≡ false) × (j ≢ length ks))
        → NoneBetween gone (ks ++ k ∷ []) (get_or (ks ++ k ∷ []) j d).bucket (gone + j + 1) (get_or (ks ++ k ∷ []) j d).next
    next j d lt (inl last) =
        let here : get_or (ks ++ k ∷ []) j d ≡ k = ap (λ n. get_or (ks ++ k ∷ []) n d) last.1 ∙ get_or-append_seam ks k [] d in
        let zero_next : (get_or (ks ++ k ∷ []) j d).next ≡ 0 = ap (λ (k : Kept). k.next) here ∙ none in
        λ i dd l lo hi is. absurd (omega (arith, zero_next, hi))
    next j d lt (inr other) =
        let inside : j < length ks = omega (arith, lt, length-append ks (k ∷ []), other.1) in
        let here = get_or_append_left ks (k ∷ []) d j inside in
        let known = h.known j d inside in
        subst (λ (y : Kept). NoneBetween gone (ks ++ k ∷ []) y.bucket (gone + j + 1) y.next) (sym here)
        (between-append gone ks k (get_or ks j d).bucket (gone + j + 1) (get_or ks j d).next (λ hi _ _. absurd (omega (arith, hi, known))) (h.next j d inside))

    known : (j : ℕ) (d : Kept) → j < length (ks ++ k ∷ []) → ((eqb j (length ks) ≡ true) × (j ≡ length ks)) ⊎ ((eqb j (length ks) ≡ false) × (j ≢ length ks))
        → (get_or (ks ++ k ∷ []) j d).next ≤ gone + length (ks ++ k ∷ []) + 1
    known j d lt (inl last) =
        let here : get_or (ks ++ k ∷ []) j d ≡ k = ap (λ n. get_or (ks ++ k ∷ []) n d) last.1 ∙ get_or-append_seam ks k [] d in
        omega (arith, ap (λ (k : Kept). k.next) here, none)
    known j d lt (inr other) =
        let inside : j < length ks = omega (arith, lt, length-append ks (k ∷ []), other.1) in
        omega (arith, ap (λ (k : Kept). k.next) (get_or_append_left ks (k ∷ []) d j inside), h.known j d inside, length-append ks (k ∷ []))
