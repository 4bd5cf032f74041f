-- Rows behind an index: what is found, and what a put, a take and a change leave.
use Rattle.std.proofs.Common.{◌≡◌, ℕ, zero, suc, ◌+◌, ◌-◌, ◌<◌, ◌≤◌, Bool, true, false, cond, eqb, List, [], ◌∷◌, length, map, get_or, set, replicate, take, Option, None, Some, refl, sym, ap, ◌∙◌, subst, arith, inl, inr}
use Rattle.std.specs.Option.{option_map}
use Rattle.std.specs.Ordering.{nat_cmp}
use Rattle.std.specs.FinMap.{FinMap, empty, get, insert, remove, len}
use Rattle.std.proofs.lemmas.Bool.{cond-true, cond-false, eq-eqb, ne_eqb, cases_eq}
use Rattle.std.proofs.lemmas.List.{get_or-set_same, get_or-set_other, get_or_default}
use Rattle.std.proofs.lemmas.Option.{none-some, same_Some}
use Rattle.overlay.proofs.PlacesLemmas.{get-placed_zero, get-insert_at, get-remove_at, same_maps, placed-nothing}
use Rattle.std.specs.Prelude.{is_some}
use Rattle.std.specs.Cmp.{nat_cmp_total}
use Rattle.std.proofs.lemmas.List.{length-set, length-replicate}
use Rattle.std.specs.FinMap.{len-empty, len-insert, len-remove, nat_cmp-IsAntisymmetric}
use Rattle.overlay.proofs.SearchLemmas.{remove_none}
use Rattle.overlay.specs.Seats.{look, seated, occupied, Leads}

get_or-map : {A B : Type 0} (g : A → B) (xs : List A) (q : ℕ) (d : A) (e : B) → g d ≡ e → get_or (map g xs) q e ≡ g (get_or xs q d)
get_or-map g [] q d e is = sym is
get_or-map g (x ∷ xs) zero d e is = refl
get_or-map g (x ∷ xs) (suc q) d e is = get_or-map g xs q d e is

set-map : {A B : Type 0} (g : A → B) (xs : List A) (i : ℕ) (x : A) → map g (set xs i x) ≡ set (map g xs) i (g x)
set-map g [] i x = refl
set-map g (y ∷ xs) zero x = refl
set-map g (y ∷ xs) (suc i) x = ap (λ (r : List _). g y ∷ r) (set-map g xs i x)

module _ {R X : Type 0} (f : R → X) where
  -- what is found at a number
  pub get-seated : (rows : List (Option R)) (index : List (Option ℕ)) (q : ℕ) → get (seated f rows index) q ≡ look f rows (get_or index q None)
  get-seated rows index q = get-placed_zero (map (look f rows) index) q ∙ get_or-map (look f rows) index q None None refl

  -- no row is found where no number has one
  pub seated-nothing : (rows : List (Option R)) (n : ℕ) → seated f rows (replicate n None) ≡ empty
  seated-nothing rows n = same_maps _ _ (λ q. get-seated rows (replicate n None) q ∙ ap (look f rows) (nothing n q) ∙ sym (ap (λ (m : FinMap nat_cmp X). get m q) (placed-nothing 0 0) ∙ empty_at q))
    where
      nothing : (n q : ℕ) → get_or (replicate {A = Option ℕ} n None) q None ≡ None
      nothing zero q = refl
      nothing (suc n) zero = refl
      nothing (suc n) (suc q) = nothing n q

      empty_at : (q : ℕ) → get (empty {X = X} {R = nat_cmp}) q ≡ None
      empty_at q = get-placed_zero (replicate 0 None) q

  -- what a number that has a row finds
  pub look-at : (rows : List (Option R)) (at : Option ℕ) (k : ℕ) → at ≡ Some k → look f rows at ≡ option_map f (get_or rows k None)
  look-at rows at k is = ap (look f rows) is

  pub look-none : (rows : List (Option R)) (at : Option ℕ) → at ≡ None → look f rows at ≡ None
  look-none rows at is = ap (look f rows) is

module _ {R X : Type 0} (number : R → ℕ) (f : R → X) where
  -- two numbers have two rows
  apart : (rows : List (Option R)) (index : List (Option ℕ)) (p q k : ℕ) → Leads number rows index → get_or index p None ≡ Some k → get_or index q None ≡ Some k → p ≡ q
  apart rows index p q k leads at_p at_q = same_Some p q (sym (leads p k at_p) ∙ leads q k at_q)

  -- another row at a place that the number p doesn't have
  look-set : (rows : List (Option R)) (index : List (Option ℕ)) (p j : ℕ) (x : Option R) → (get_or index p None ≡ Some j → ⊥) → look f (set rows j x) (get_or index p None) ≡ look f rows (get_or index p None)
  look-set rows index p j x not_there = by (get_or index p None) not_there
    where
      by : (at : Option ℕ) → (at ≡ Some j → ⊥) → look f (set rows j x) at ≡ look f rows at
      by None other = refl
      by (Some k) other = ap (option_map f) (get_or-set_other rows j k x None (λ e. other (ap (λ (i : ℕ). Some i) e)))

  -- ---- a put at a free place

  free_place : (rows : List (Option R)) (index : List (Option ℕ)) (p j : ℕ) → Leads number rows index → get_or rows j None ≡ None → get_or index p None ≡ Some j → ⊥
  free_place rows index p j leads free at = none-some p (sym (ap (option_map number) free) ∙ leads p j at)

  pub seated-put : (rows : List (Option R)) (index : List (Option ℕ)) (q j : ℕ) (r : R) → Leads number rows index → get_or rows j None ≡ None → j < length rows → q < length index
      → seated f (set rows j (Some r)) (set index q (Some j)) ≡ insert (seated f rows index) q (f r)
  seated-put rows index q j r leads free lt lt' = same_maps _ _ alike
    where
      alike : (p : ℕ) → get (seated f (set rows j (Some r)) (set index q (Some j))) p ≡ get (insert (seated f rows index) q (f r)) p
      alike p = get-seated f (set rows j (Some r)) (set index q (Some j)) p ∙ elim (cases_eq p q) [
        | inl same ↦
            ap (look f (set rows j (Some r))) (ap (λ (i : ℕ). get_or (set index q (Some j)) i None) same ∙ get_or-set_same index q (Some j) None lt')
            ∙ ap (option_map f) (get_or-set_same rows j (Some r) None lt)
            ∙ sym (get-insert_at (seated f rows index) q (f r) p ∙ cond-true (eqb p q) (Some (f r)) (get (seated f rows index) p) (eq-eqb p q same))
        | inr ne ↦
            ap (look f (set rows j (Some r))) (get_or-set_other index q p (Some j) None ne)
            ∙ look-set rows index p j (Some r) (free_place rows index p j leads free)
            ∙ sym (get-insert_at (seated f rows index) q (f r) p ∙ cond-false (eqb p q) (Some (f r)) (get (seated f rows index) p) (ne_eqb p q ne) ∙ get-seated f rows index p)
      ]

  -- ---- a take

  pub seated-take : (rows : List (Option R)) (index : List (Option ℕ)) (q j : ℕ) → Leads number rows index → get_or index q None ≡ Some j → q < length index
      → seated f (set rows j None) (set index q None) ≡ remove (seated f rows index) q
  seated-take rows index q j leads at lt' = same_maps _ _ alike
    where
      alike : (p : ℕ) → get (seated f (set rows j None) (set index q None)) p ≡ get (remove (seated f rows index) q) p
      alike p = get-seated f (set rows j None) (set index q None) p ∙ elim (cases_eq p q) [
        | inl same ↦
            ap (look f (set rows j None)) (ap (λ (i : ℕ). get_or (set index q None) i None) same ∙ get_or-set_same index q None None lt')
            ∙ sym (get-remove_at (seated f rows index) q p ∙ cond-true (eqb p q) None (get (seated f rows index) p) (eq-eqb p q same))
        | inr ne ↦
            ap (look f (set rows j None)) (get_or-set_other index q p None None ne)
            ∙ look-set rows index p j None (λ there. ne (apart rows index p q j leads there at))
            ∙ sym (get-remove_at (seated f rows index) q p ∙ cond-false (eqb p q) None (get (seated f rows index) p) (ne_eqb p q ne) ∙ get-seated f rows index p)
      ]

  -- a number without a row has nothing to take
  pub seated-nothing_there : (rows : List (Option R)) (index : List (Option ℕ)) (q : ℕ) → get_or index q None ≡ None → q < length index
      → seated f rows (set index q None) ≡ remove (seated f rows index) q
  seated-nothing_there rows index q at lt' = same_maps _ _ alike
    where
      alike : (p : ℕ) → get (seated f rows (set index q None)) p ≡ get (remove (seated f rows index) q) p
      alike p = get-seated f rows (set index q None) p ∙ elim (cases_eq p q) [
        | inl same ↦
            ap (look f rows) (ap (λ (i : ℕ). get_or (set index q None) i None) same ∙ get_or-set_same index q None None lt')
            ∙ sym (get-remove_at (seated f rows index) q p ∙ cond-true (eqb p q) None (get (seated f rows index) p) (eq-eqb p q same))
        | inr ne ↦
            ap (look f rows) (get_or-set_other index q p None None ne)
            ∙ sym (get-remove_at (seated f rows index) q p ∙ cond-false (eqb p q) None (get (seated f rows index) p) (ne_eqb p q ne) ∙ get-seated f rows index p)
      ]

  -- ---- a change of a row

  pub seated-change : (rows : List (Option R)) (index : List (Option ℕ)) (q j : ℕ) (r : R) → Leads number rows index → get_or index q None ≡ Some j → j < length rows
      → seated f (set rows j (Some r)) index ≡ insert (seated f rows index) q (f r)
  seated-change rows index q j r leads at lt = same_maps _ _ alike
    where
      alike : (p : ℕ) → get (seated f (set rows j (Some r)) index) p ≡ get (insert (seated f rows index) q (f r)) p
      alike p = get-seated f (set rows j (Some r)) index p ∙ elim (cases_eq p q) [
        | inl same ↦
            ap (look f (set rows j (Some r))) (ap (λ (i : ℕ). get_or index i None) same ∙ at)
            ∙ ap (option_map f) (get_or-set_same rows j (Some r) None lt)
            ∙ sym (get-insert_at (seated f rows index) q (f r) p ∙ cond-true (eqb p q) (Some (f r)) (get (seated f rows index) p) (eq-eqb p q same))
        | inr ne ↦
            look-set rows index p j (Some r) (λ there. ne (apart rows index p q j leads there at))
            ∙ sym (get-insert_at (seated f rows index) q (f r) p ∙ cond-false (eqb p q) (Some (f r)) (get (seated f rows index) p) (ne_eqb p q ne) ∙ get-seated f rows index p)
      ]

  -- one that shows nothing other
  pub seated-same : (rows : List (Option R)) (index : List (Option ℕ)) (j : ℕ) (r s : R) → get_or rows j None ≡ Some s → f r ≡ f s → j < length rows
      → seated f (set rows j (Some r)) index ≡ seated f rows index
  seated-same rows index j r s there same lt = same_maps _ _ alike
    where
      at : (o : Option ℕ) → look f (set rows j (Some r)) o ≡ look f rows o
      at None = refl
      at (Some k) = elim (cases_eq k j) [
        | inl e ↦
            ap (λ (i : ℕ). option_map f (get_or (set rows j (Some r)) i None)) e ∙ ap (option_map f) (get_or-set_same rows j (Some r) None lt)
            ∙ ap (λ (x : X). Some x) same ∙ sym (ap (λ (i : ℕ). option_map f (get_or rows i None)) e ∙ ap (option_map f) there)
        | inr ne ↦ ap (option_map f) (get_or-set_other rows j k (Some r) None ne)
      ]

      alike : (p : ℕ) → get (seated f (set rows j (Some r)) index) p ≡ get (seated f rows index) p
      alike p = get-seated f (set rows j (Some r)) index p ∙ at (get_or index p None) ∙ sym (get-seated f rows index p)

module _ {R : Type 0} (number : R → ℕ) where
  -- ---- the index still leads to the rows of its numbers

  pub leads-nothing : (rows : List (Option R)) (n : ℕ) → Leads number rows (replicate n None)
  leads-nothing rows zero q k at = absurd (none-some k at)
  leads-nothing rows (suc n) zero k at = absurd (none-some k at)
  leads-nothing rows (suc n) (suc q) k at = absurd (none-some k (sym (nothing n q) ∙ at))
    where
      nothing : (n q : ℕ) → get_or (replicate {A = Option ℕ} n None) q None ≡ None
      nothing zero q = refl
      nothing (suc n) zero = refl
      nothing (suc n) (suc q) = nothing n q

  pub leads-put : (rows : List (Option R)) (index : List (Option ℕ)) (q j : ℕ) (r : R) → Leads number rows index → number r ≡ q → get_or rows j None ≡ None → j < length rows → q < length index
      → Leads number (set rows j (Some r)) (set index q (Some j))
  leads-put rows index q j r leads is free lt lt' p k at = elim (cases_eq p q) [
    | inl same ↦
        let here : Some j ≡ Some k = sym (get_or-set_same index q (Some j) None lt') ∙ ap (λ (i : ℕ). get_or (set index q (Some j)) i None) (sym same) ∙ at in
        ap (λ (i : ℕ). option_map number (get_or (set rows j (Some r)) i None)) (sym (same_Some j k here))
        ∙ ap (option_map number) (get_or-set_same rows j (Some r) None lt) ∙ ap (λ (i : ℕ). Some i) (is ∙ sym same)
    | inr ne ↦
        let before : get_or index p None ≡ Some k = sym (get_or-set_other index q p (Some j) None ne) ∙ at in
        ap (option_map number) (get_or-set_other rows j k (Some r) None (λ e. none-some p (sym (ap (option_map number) (ap (λ (i : ℕ). get_or rows i None) e ∙ free)) ∙ leads p k before))) ∙ leads p k before
  ]

  pub leads-take : (rows : List (Option R)) (index : List (Option ℕ)) (q j : ℕ) → Leads number rows index → get_or index q None ≡ Some j → q < length index
      → Leads number (set rows j None) (set index q None)
  leads-take rows index q j leads there lt' p k at = elim (cases_eq p q) [
    | inl same ↦ absurd (none-some k (sym (get_or-set_same index q None None lt') ∙ ap (λ (i : ℕ). get_or (set index q None) i None) (sym same) ∙ at))
    | inr ne ↦
        let before : get_or index p None ≡ Some k = sym (get_or-set_other index q p None None ne) ∙ at in
        ap (option_map number) (get_or-set_other rows j k None None (λ e. ne (same_Some p q (sym (leads p k before) ∙ ap (λ (i : ℕ). option_map number (get_or rows i None)) e ∙ leads q j there)))) ∙ leads p k before
  ]

  pub leads-nothing_there : (rows : List (Option R)) (index : List (Option ℕ)) (q : ℕ) → Leads number rows index → q < length index → Leads number rows (set index q None)
  leads-nothing_there rows index q leads lt' p k at = elim (cases_eq p q) [
    | inl same ↦ absurd (none-some k (sym (get_or-set_same index q None None lt') ∙ ap (λ (i : ℕ). get_or (set index q None) i None) (sym same) ∙ at))
    | inr ne ↦ leads p k (sym (get_or-set_other index q p None None ne) ∙ at)
  ]

  pub leads-change : (rows : List (Option R)) (index : List (Option ℕ)) (j : ℕ) (r s : R) → Leads number rows index → get_or rows j None ≡ Some s → number r ≡ number s → j < length rows → Leads number (set rows j (Some r)) index
  leads-change rows index j r s leads there same lt p k at = elim (cases_eq k j) [
    | inl e ↦
        ap (λ (i : ℕ). option_map number (get_or (set rows j (Some r)) i None)) e ∙ ap (option_map number) (get_or-set_same rows j (Some r) None lt)
        ∙ ap (λ (i : ℕ). Some i) same ∙ sym (ap (λ (i : ℕ). option_map number (get_or rows i None)) e ∙ ap (option_map number) there) ∙ leads p k at
    | inr ne ↦ ap (option_map number) (get_or-set_other rows j k (Some r) None ne) ∙ leads p k at
  ]

  -- a place that the index has is one of the rows
  pub leads-within : (rows : List (Option R)) (index : List (Option ℕ)) (q k : ℕ) → Leads number rows index → get_or index q None ≡ Some k → k < length rows
  leads-within rows index q k leads at = within rows k (leads q k at)
    where
      within : (rows : List (Option R)) (k : ℕ) → option_map number (get_or rows k None) ≡ Some q → k < length rows
      within [] k is = absurd (none-some q is)
      within (x ∷ rows) zero is = omega arith
      within (x ∷ rows) (suc k) is = omega (arith, within rows k is)

-- ---- how many rows hold something

pub occupied-nothing : (R : Type 0) (n : ℕ) → occupied {R = R} (replicate n None) ≡ 0
occupied-nothing R zero = refl
occupied-nothing R (suc n) = occupied-nothing R n

module _ {R : Type 0} where
  pub occupied-put : (rows : List (Option R)) (j : ℕ) (r : R) → get_or rows j None ≡ None → j < length rows → occupied (set rows j (Some r)) ≡ occupied rows + 1
  occupied-put [] j r free lt = absurd (omega (arith, lt))
  occupied-put (None ∷ rows) zero r free lt = omega arith
  occupied-put (Some s ∷ rows) zero r free lt = absurd (none-some s (sym free))
  occupied-put (None ∷ rows) (suc j) r free lt = occupied-put rows j r free (omega (arith, lt))
  occupied-put (Some s ∷ rows) (suc j) r free lt = omega (arith, occupied-put rows j r free (omega (arith, lt)))

  pub occupied-take : (rows : List (Option R)) (j : ℕ) (s : R) → get_or rows j None ≡ Some s → occupied (set rows j None) + 1 ≡ occupied rows
  occupied-take [] j s there = absurd (none-some s there)
  occupied-take (None ∷ rows) zero s there = absurd (none-some s there)
  occupied-take (Some x ∷ rows) zero s there = omega arith
  occupied-take (None ∷ rows) (suc j) s there = occupied-take rows j s there
  occupied-take (Some x ∷ rows) (suc j) s there = omega (arith, occupied-take rows j s there)

  pub occupied-change : (rows : List (Option R)) (j : ℕ) (r s : R) → get_or rows j None ≡ Some s → occupied (set rows j (Some r)) ≡ occupied rows
  occupied-change [] j r s there = refl
  occupied-change (None ∷ rows) zero r s there = absurd (none-some s there)
  occupied-change (Some x ∷ rows) zero r s there = refl
  occupied-change (None ∷ rows) (suc j) r s there = occupied-change rows j r s there
  occupied-change (Some x ∷ rows) (suc j) r s there = ap (λ (n : ℕ). 1 + n) (occupied-change rows j r s there)

  -- where the rows up to a place hold something, and so does the row there
  pub occupied-more : (rows : List (Option R)) (j : ℕ) (s : R) → get_or rows j None ≡ Some s → occupied (take j rows) ≡ j → occupied (take (j + 1) rows) ≡ j + 1
  occupied-more [] j s there full = absurd (none-some s there)
  occupied-more (None ∷ rows) zero s there full = absurd (none-some s there)
  occupied-more (Some x ∷ rows) zero s there full = refl
  occupied-more (None ∷ rows) (suc j) s there full = absurd (omega (arith, full, at_most j rows))
    where
      at_most : (n : ℕ) (rows : List (Option R)) → occupied (take n rows) ≤ n
      at_most zero rows = omega arith
      at_most (suc n) [] = omega arith
      at_most (suc n) (None ∷ rows) = omega (arith, at_most n rows)
      at_most (suc n) (Some x ∷ rows) = omega (arith, at_most n rows)
  occupied-more (Some x ∷ rows) (suc j) s there full =
      let e : suc j + 1 ≡ suc (j + 1) = omega arith in
      let rest : occupied (take (j + 1) rows) ≡ j + 1 = occupied-more rows j s there (omega (arith, full)) in
      ap (λ (n : ℕ). occupied (take n (Some x ∷ rows))) e ∙ ap (λ (n : ℕ). 1 + n) rest ∙ (let g : 1 + (j + 1) ≡ suc j + 1 = omega arith in g)

-- ---- what is read

-- what is read at a place, as it is read from a list
pub read_at : {A : Type 0} (xs : List (Option A)) (i k : ℕ) (x : Option A) → x ≡ get_or xs i x → i ≡ k → k < length xs → x ≡ get_or xs k None
read_at xs i k x read same lt = read ∙ ap (λ (j : ℕ). get_or xs j x) same ∙ get_or_default xs k x None lt

-- what a row that was read shows
pub found : {R X : Type 0} (f : R → X) (rows : List (Option R)) (index : List (Option ℕ)) (q k : ℕ) (x : Option R) → x ≡ get_or rows k None → get_or index q None ≡ Some k → option_map f x ≡ get (seated f rows index) q
found f rows index q k x read at = ap (option_map f) read ∙ sym (get-seated f rows index q ∙ look-at f rows (get_or index q None) k at)

pub absent : {R X : Type 0} (f : R → X) (rows : List (Option R)) (index : List (Option ℕ)) (q : ℕ) → get_or index q None ≡ None → get (seated f rows index) q ≡ None
absent f rows index q at = get-seated f rows index q ∙ look-none f rows (get_or index q None) at

-- ---- what holds of rows and index, by a number and what is shown of each row

module _ {R X : Type 0} (number : R → ℕ) (f : R → X) where
  abbrev pub Keeps : List (Option R) → List (Option ℕ) → Type 0
  Keeps rows index = (4094 < length index) × (length rows < 65536) × Leads number rows index × (occupied rows ≡ len (seated f rows index))

  pub keeps-nothing : (most : ℕ) (rows : List (Option R)) (index : List (Option ℕ)) → most < 65536 → rows ≡ replicate most None → index ≡ replicate 4096 None → Keeps rows index
  keeps-nothing most rows index few rows_are index_is = (
    omega (arith, ap length index_is, length-replicate {A = Option ℕ} 4096 None),
    omega (arith, few, ap length rows_are, length-replicate {A = Option R} most None),
    subst (λ (i : List (Option ℕ)). Leads number rows i) (sym index_is) (leads-nothing number rows 4096),
    ap occupied rows_are ∙ occupied-nothing R most ∙ sym (ap (λ (i : List (Option ℕ)). len (seated f rows i)) index_is ∙ ap len (seated-nothing f rows 4096) ∙ len-empty nat_cmp X),
  )

  pub keeps-put : (rows : List (Option R)) (index : List (Option ℕ)) (q j : ℕ) (r : R) → Keeps rows index → number r ≡ q → get_or rows j None ≡ None → j < length rows → q < length index → get (seated f rows index) q ≡ None
      → Keeps (set rows j (Some r)) (set index q (Some j))
  keeps-put rows index q j r kept is free lt lt' new = (
    omega (arith, kept.0, length-set index q (Some j)),
    omega (arith, length-set rows j (Some r), kept.1),
    leads-put number rows index q j r kept.2 is free lt lt',
    occupied-put rows j r free lt ∙ ap (λ (n : ℕ). n + 1) kept.3
        ∙ sym (ap len (seated-put number f rows index q j r kept.2 free lt lt') ∙ len-insert nat_cmp_total (seated f rows index) q (f r)
        ∙ ap (λ (x : Option X). cond (is_some x) (len (seated f rows index)) (len (seated f rows index) + 1)) new),
  )

  pub keeps-take : (rows : List (Option R)) (index : List (Option ℕ)) (q j : ℕ) (s : R) → Keeps rows index → get_or index q None ≡ Some j → get_or rows j None ≡ Some s → q < length index
      → Keeps (set rows j None) (set index q None)
  keeps-take rows index q j s kept at there lt' =
      let m = seated f rows index in
      let found_there : get m q ≡ Some (f s) = get-seated f rows index q ∙ look-at f rows (get_or index q None) j at ∙ ap (option_map f) there in
      let fewer : len (remove m q) ≡ len m - 1 = len-remove nat_cmp_total m q ∙ ap (λ (x : Option X). cond (is_some x) (len m - 1) (len m)) found_there in (
        omega (arith, kept.0, length-set index q None),
        omega (arith, length-set rows j None, kept.1),
        leads-take number rows index q j kept.2 at lt',
        (let e : occupied (set rows j None) ≡ len (remove m q) = omega (arith, occupied-take rows j s there, kept.3, fewer) in e) ∙ sym (ap len (seated-take number f rows index q j kept.2 at lt')),
      )

  pub keeps-absent : (rows : List (Option R)) (index : List (Option ℕ)) (q : ℕ) → Keeps rows index → get_or index q None ≡ None → q < length index → Keeps rows (set index q None)
  keeps-absent rows index q kept at lt' =
      let m = seated f rows index in
      let absent_there : get m q ≡ None = get-seated f rows index q ∙ look-none f rows (get_or index q None) at in (
        omega (arith, kept.0, length-set index q None),
        kept.1,
        leads-nothing_there number rows index q kept.2 lt',
        kept.3 ∙ ap len (remove_none nat_cmp_total nat_cmp-IsAntisymmetric m q absent_there) ∙ sym (ap len (seated-nothing_there number f rows index q at lt')),
      )

  pub keeps-change : (rows : List (Option R)) (index : List (Option ℕ)) (q j : ℕ) (r s : R) → Keeps rows index → get_or index q None ≡ Some j → get_or rows j None ≡ Some s → number r ≡ number s → j < length rows
      → Keeps (set rows j (Some r)) index
  keeps-change rows index q j r s kept at there same lt =
      let m = seated f rows index in
      let found_there : get m q ≡ Some (f s) = get-seated f rows index q ∙ look-at f rows (get_or index q None) j at ∙ ap (option_map f) there in (
        kept.0,
        omega (arith, length-set rows j (Some r), kept.1),
        leads-change number rows index j r s kept.2 there same lt,
        occupied-change rows j r s there ∙ kept.3
            ∙ sym (ap len (seated-change number f rows index q j r kept.2 at lt) ∙ len-insert nat_cmp_total m q (f r) ∙ ap (λ (x : Option X). cond (is_some x) (len m) (len m + 1)) found_there),
      )

-- one more row that isn't free
pub taken_row : {R : Type 0} (rows : List (Option R)) (j : ℕ) (x : Option R) → x ≡ get_or rows j None → is_some x ≡ true → occupied (take j rows) ≡ j → occupied (take (j + 1) rows) ≡ j + 1
taken_row rows j None is full so_far = absurd cc
taken_row rows j (Some s) is full so_far = occupied-more rows j s (sym is) so_far

-- a number that shows something has a place, and a row there
pub there_at : {R X : Type 0} (f : R → X) (rows : List (Option R)) (index : List (Option ℕ)) (q : ℕ) (x : Option ℕ) → x ≡ get_or index q None → is_some (get (seated f rows index) q) ≡ true → is_some x ≡ true
there_at f rows index q None is there = absurd (none-true (sym (ap is_some (absent f rows index q (sym is))) ∙ there))
  where
    none-true : false ≡ true → ⊥
    none-true e = absurd cc
there_at f rows index q (Some k) is there = refl

pub row_at : {R X : Type 0} (f : R → X) (rows : List (Option R)) (index : List (Option ℕ)) (q k : ℕ) (x : Option R) → x ≡ get_or rows k None → get_or index q None ≡ Some k → is_some (get (seated f rows index) q) ≡ true → is_some x ≡ true
row_at f rows index q k None is at there = absurd (none-true (ap is_some (found f rows index q k None is at) ∙ there))
  where
    none-true : false ≡ true → ⊥
    none-true e = absurd cc
row_at f rows index q k (Some r) is at there = refl

-- a take of a row that the index leads to
pub keeps-taken : {R X : Type 0} (number : R → ℕ) (f : R → X) (rows : List (Option R)) (index : List (Option ℕ)) (q j : ℕ) → Keeps number f rows index → get_or index q None ≡ Some j → q < length index
    → Keeps number f (set rows j None) (set index q None)
keeps-taken {R = R} number f rows index q j kept at lt = by (get_or rows j None) refl
  where
    by : (x : Option R) → get_or rows j None ≡ x → Keeps number f (set rows j None) (set index q None)
    by None gone = absurd (none-some q (sym (ap (option_map number) gone) ∙ kept.2 q j at))
    by (Some s) there = keeps-take number f rows index q j s kept at there lt

-- ---- how many rows so far hold something

-- what a row adds to the count
abbrev one_if : Bool → ℕ
one_if true = 1
one_if false = 0

occupied-next : {R : Type 0} (rows : List (Option R)) (j : ℕ) (x : Option R) → x ≡ get_or rows j None → occupied (take (suc j) rows) ≡ occupied (take j rows) + one_if (is_some x)
occupied-next [] zero x is = let e : one_if (is_some x) ≡ 0 = ap (λ (o : Option _). one_if (is_some o)) is in omega (arith, e)
occupied-next [] (suc j) x is = let e : one_if (is_some x) ≡ 0 = ap (λ (o : Option _). one_if (is_some o)) is in omega (arith, e)
occupied-next (None ∷ rows) zero x is = let e : one_if (is_some x) ≡ 0 = ap (λ (o : Option _). one_if (is_some o)) is in omega (arith, e)
occupied-next (Some y ∷ rows) zero x is = let e : one_if (is_some x) ≡ 1 = ap (λ (o : Option _). one_if (is_some o)) is in omega (arith, e)
occupied-next (None ∷ rows) (suc j) x is = occupied-next rows j x is
occupied-next (Some y ∷ rows) (suc j) x is = omega (arith, occupied-next rows j x is)

module _ {R : Type 0} (rows : List (Option R)) (j : ℕ) (x : Option R) (there : x ≡ get_or rows j None) where
  pub one_counted : is_some x ≡ true → occupied (take (j + 1) rows) ≡ occupied (take j rows) + 1
  one_counted some =
      let e : j + 1 ≡ suc j = omega arith in
      let one : one_if (is_some x) ≡ 1 = ap (λ (b : Bool). one_if b) some in
      ap (λ (n : ℕ). occupied (take n rows)) e ∙ (let g : occupied (take (suc j) rows) ≡ occupied (take j rows) + 1 = omega (arith, occupied-next rows j x there, one) in g)

  pub none_counted : is_some x ≡ false → occupied (take (j + 1) rows) ≡ occupied (take j rows)
  none_counted none =
      let e : j + 1 ≡ suc j = omega arith in
      let no : one_if (is_some x) ≡ 0 = ap (λ (b : Bool). one_if b) none in
      ap (λ (n : ℕ). occupied (take n rows)) e ∙ (let g : occupied (take (suc j) rows) ≡ occupied (take j rows) = omega (arith, occupied-next rows j x there, no) in g)
