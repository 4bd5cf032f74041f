-- A row of places as a finite map: what it has, and what a write leaves.
use Rattle.std.proofs.Common.{◌≡◌, ℕ, zero, suc, ◌+◌, ◌-◌, ◌<◌, ◌≤◌, Bool, cond, eqb, List, [], ◌∷◌, length, get_or, set, replicate, Option, None, Some, refl, sym, ap, ◌∙◌, arith, inl, inr}
use Rattle.std.proofs.lemmas.Bool.{cond-true, cond-false, eq-eqb, ne_eqb, cases_lt, cases_eq}
use Rattle.std.proofs.lemmas.List.{get_or-set_same, get_or-set_other, get_or_default}
use Rattle.std.specs.Cmp.{nat_cmp_total, unsigned_tied}
use Rattle.std.specs.Ordering.{nat_cmp}
use Rattle.std.specs.FinMap.{FinMap, empty, get, insert, remove, get-empty, get-insert, get-remove, same_map, nat_cmp-IsAntisymmetric}
use Rattle.overlay.specs.Places.{placed}

-- ---- maps of numbers, by equality of keys

pub get-insert_at : {X : Type 0} (m : FinMap nat_cmp X) (k : ℕ) (x : X) (q : ℕ) → get (insert m k x) q ≡ cond (eqb q k) (Some x) (get m q)
get-insert_at m k x q = get-insert nat_cmp_total m k x q ∙ ap (λ (b : Bool). cond b (Some x) (get m q)) (unsigned_tied q k)

pub get-remove_at : {X : Type 0} (m : FinMap nat_cmp X) (k q : ℕ) → get (remove m k) q ≡ cond (eqb q k) None (get m q)
get-remove_at m k q = get-remove nat_cmp_total m k q ∙ ap (λ (b : Bool). cond b None (get m q)) (unsigned_tied q k)

pub get-insert_same : {X : Type 0} (m : FinMap nat_cmp X) (k : ℕ) (x : X) → get (insert m k x) k ≡ Some x
get-insert_same m k x = get-insert_at m k x k ∙ cond-true (eqb k k) (Some x) (get m k) (eq-eqb k k refl)

pub get-insert_other : {X : Type 0} (m : FinMap nat_cmp X) (k : ℕ) (x : X) (q : ℕ) → (q ≡ k → ⊥) → get (insert m k x) q ≡ get m q
get-insert_other m k x q ne = get-insert_at m k x q ∙ cond-false (eqb q k) (Some x) (get m q) (ne_eqb q k ne)

pub same_maps : {X : Type 0} (m n : FinMap nat_cmp X) → ((q : ℕ) → get m q ≡ get n q) → m ≡ n
same_maps m n alike = same_map nat_cmp_total nat_cmp-IsAntisymmetric m n alike

-- ---- what is at a place

pub get-placed_below : {X : Type 0} (number : ℕ) (places : List (Option X)) (q : ℕ) → q < number → get (placed number places) q ≡ None
get-placed_below number [] q lt = get-empty nat_cmp q
get-placed_below number (None ∷ places) q lt = get-placed_below (suc number) places q (omega arith)
get-placed_below number (Some x ∷ places) q lt =
    get-insert_other (placed (suc number) places) number x q (λ e. omega arith) ∙ get-placed_below (suc number) places q (omega arith)

pub get-placed : {X : Type 0} (number : ℕ) (places : List (Option X)) (i : ℕ) → get (placed number places) (number + i) ≡ get_or places i None
get-placed number [] i = get-empty nat_cmp (number + i)
get-placed number (None ∷ places) zero = get-placed_below (suc number) places (number + 0) (omega arith)
get-placed number (None ∷ places) (suc i) =
    let next : number + suc i ≡ suc number + i = omega arith in
    ap (get (placed (suc number) places)) next ∙ get-placed (suc number) places i
get-placed number (Some x ∷ places) zero =
    let here : number + 0 ≡ number = omega arith in
    ap (get (insert (placed (suc number) places) number x)) here ∙ get-insert_same (placed (suc number) places) number x
get-placed number (Some x ∷ places) (suc i) =
    let next : number + suc i ≡ suc number + i = omega arith in
    get-insert_other (placed (suc number) places) number x (number + suc i) (λ e. omega arith)
    ∙ ap (get (placed (suc number) places)) next
    ∙ get-placed (suc number) places i

-- ---- what a write leaves

-- a map with this at a key, or with nothing there
abbrev pub with_at : {X : Type 0} → FinMap nat_cmp X → ℕ → Option X → FinMap nat_cmp X
with_at m k (Some x) = insert m k x
with_at m k None = remove m k

pub get-with_at : {X : Type 0} (m : FinMap nat_cmp X) (k : ℕ) (x : Option X) (q : ℕ) → get (with_at m k x) q ≡ cond (eqb q k) x (get m q)
get-with_at m k (Some x) q = get-insert_at m k x q
get-with_at m k None q = get-remove_at m k q

pub placed-set : {X : Type 0} (number : ℕ) (places : List (Option X)) (i : ℕ) (x : Option X) → i < length places → placed number (set places i x) ≡ with_at (placed number places) (number + i) x
placed-set number places i x lt = same_maps _ _ alike
  where
    at : (j : ℕ) → get (placed number (set places i x)) (number + j) ≡ get (with_at (placed number places) (number + i) x) (number + j)
    at j = elim (cases_eq j i) [
      | inl same ↦
          let here : number + j ≡ number + i = ap (λ (k : ℕ). number + k) same in
          get-placed number (set places i x) j ∙ ap (λ (k : ℕ). get_or (set places i x) k None) same ∙ get_or-set_same places i x None lt
          ∙ sym (cond-true (eqb (number + j) (number + i)) x (get (placed number places) (number + j)) (eq-eqb _ _ here))
          ∙ sym (get-with_at (placed number places) (number + i) x (number + j))
      | inr ne ↦
          get-placed number (set places i x) j ∙ get_or-set_other places i j x None ne ∙ sym (get-placed number places j)
          ∙ sym (cond-false (eqb (number + j) (number + i)) x (get (placed number places) (number + j)) (ne_eqb _ _ (λ e. ne (omega arith))))
          ∙ sym (get-with_at (placed number places) (number + i) x (number + j))
    ]

    alike : (q : ℕ) → get (placed number (set places i x)) q ≡ get (with_at (placed number places) (number + i) x) q
    alike q = elim (cases_lt q number) [
      | inl lt' ↦
          get-placed_below number (set places i x) q lt' ∙ sym (get-placed_below number places q lt')
          ∙ sym (cond-false (eqb q (number + i)) x (get (placed number places) q) (ne_eqb _ _ (λ e. omega arith)))
          ∙ sym (get-with_at (placed number places) (number + i) x q)
      | inr le ↦
          let is : q ≡ number + (q - number) = omega arith in
          ap (get (placed number (set places i x))) is ∙ at (q - number) ∙ ap (get (with_at (placed number places) (number + i) x)) (sym is)
    ]

-- the same, by the number of the place
pub get-placed_at : {X : Type 0} (number : ℕ) (places : List (Option X)) (q : ℕ) → number ≤ q → get (placed number places) q ≡ get_or places (q - number) None
get-placed_at number places q le =
    let is : q ≡ number + (q - number) = omega arith in
    ap (get (placed number places)) is ∙ get-placed number places (q - number)

pub placed-set_at : {X : Type 0} (number : ℕ) (places : List (Option X)) (q : ℕ) (x : Option X) → number ≤ q → q - number < length places → placed number (set places (q - number) x) ≡ with_at (placed number places) q x
placed-set_at number places q x le lt =
    let is : number + (q - number) ≡ q = omega arith in
    placed-set number places (q - number) x lt ∙ ap (λ (k : ℕ). with_at (placed number places) k x) is

-- the same, where the first place has the number 0
pub get-placed_zero : {X : Type 0} (places : List (Option X)) (q : ℕ) → get (placed 0 places) q ≡ get_or places q None
get-placed_zero places q =
    let is : q ≡ 0 + q = omega arith in
    ap (get (placed 0 places)) is ∙ get-placed 0 places q

pub placed-set_zero : {X : Type 0} (places : List (Option X)) (q : ℕ) (x : Option X) → q < length places → placed 0 (set places q x) ≡ with_at (placed 0 places) q x
placed-set_zero places q x lt =
    let is : 0 + q ≡ q = omega arith in
    placed-set 0 places q x lt ∙ ap (λ (k : ℕ). with_at (placed 0 places) k x) is

-- what is read at a place, as it is read from a list
pub read-placed : {X : Type 0} (places : List (Option X)) (k q : ℕ) (x : Option X) → x ≡ get_or places k x → k ≡ q → q < length places → x ≡ get (placed 0 places) q
read-placed places k q x read same lt =
    read ∙ ap (λ (i : ℕ). get_or places i x) same ∙ get_or_default places q x None lt ∙ sym (get-placed_zero places q)

-- places that hold nothing
pub placed-nothing : {X : Type 0} (number n : ℕ) → placed {X = X} number (replicate n None) ≡ empty
placed-nothing number zero = refl
placed-nothing number (suc n) = placed-nothing (suc number) n
