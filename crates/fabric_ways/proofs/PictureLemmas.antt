-- Steps, rows and cells.
use Rattle.std.proofs.Common.{◌≡◌, ◌↔◌, ◌⊎◌, ℕ, zero, suc, ◌+◌, ◌*◌, ◌/◌, ◌<◌, ◌≤◌, Bool, true, false, ◌||◌, List, [], ◌∷◌, ◌++◌, length, filter, Option, Some, None, slice_get, slice_index, refl, sym, ◌∙◌, ap, subst, inl, inr, arith, below_more, length-append}
use Rattle.std.proofs.Common.{Vec, Global}
use Rattle.std.specs.List.{All, range_with_len}
use Rattle.std.specs.Option.{option_map_or}
use Rattle.std.proofs.lemmas.List.Elements.{All-filter, All-get_or, All-from_get_or}
use Rattle.std.proofs.lemmas.List.FromFn.{length-range_with_len, get_or-range_with_len}
use Rattle.std.proofs.lemmas.Option.{slice_get_past}
use Rattle.std.proofs.lemmas.Nat.{mul-add-lt}
use Rattle.fabric_grid.specs.declared.cell.Cell.{Cell}
use Rattle.fabric_ways.specs.Leads.{HasAll, IsBelow, Leads, is_found}
use Rattle.fabric_ways.specs.Rows.{row_in}
use Rattle.fabric_ways.specs.Picture.{moves, came_of, is_step, steps, cell, cell_in, has_way, HasRow, IsCell}
use Rattle.fabric_ways.specs.declared.member.Member.{Member}

-- ---- lists

pub slice_get-kept : {X : Type 0} (xs ys : List X) (k : ℕ) → k < length xs → slice_get (xs ++ ys) k ≡ slice_get xs k
slice_get-kept [] ys k lt = absurd (omega arith)
slice_get-kept (x ∷ xs) ys zero lt = refl
slice_get-kept (x ∷ xs) ys (suc k) lt = slice_get-kept xs ys k (omega arith)

pub slice_get-here : {X : Type 0} (xs : List X) (y : X) → slice_get (xs ++ y ∷ []) (length xs) ≡ Some y
slice_get-here [] y = refl
slice_get-here (x ∷ xs) y = slice_get-here xs y

filter-none : {X : Type 0} (p : X → Bool) → ((x : X) → p x ≡ false) → (xs : List X) → filter p xs ≡ []
filter-none p none [] = refl
filter-none p none (x ∷ xs) = rw (none x) (filter-none p none xs)

-- ---- steps

-- from no state that there is, no step leads on
pub steps-past : (N : List Member) (s : ℕ) → 3 * length N ≤ s → steps N s ≡ []
steps-past N s past =
    let e = slice_get_past N (s / 3) (omega arith) in
    filter-none (is_step N s)
    (λ t. ap (λ o. option_map_or (λ X. option_map_or (moves X (came_of s) (came_of t)) (slice_get N (t / 3)) false) o false) e)
    (range_with_len 0 (3 * length N))

-- steps lead to states that there are
pub steps-below : (N : List Member) (s k : ℕ) → k < length (steps N s) → slice_index (steps N s) k < 3 * length N
steps-below N s k lt =
    let m = 3 * length N in
    let P : ℕ → Type 0 = λ t. t < m in
    let all : All P (range_with_len 0 m) =
    All-from_get_or P (range_with_len 0 m) 0
    (λ i b. let c : i < m = subst (λ (n : ℕ). i < n) (length-range_with_len 0 m) b in omega (arith, get_or-range_with_len 0 m i 0 c)) in
    All-get_or P (steps N s) k 0 lt (All-filter (is_step N s) P (range_with_len 0 m) all)

-- equal steps lead to the same
pub Leads-same : (r q : ℕ → List ℕ) → ((s : ℕ) → r s ≡ q s) → (s t : ℕ) → Leads r s t → Leads q s t
Leads-same r q same s t leads = λ p steps closed.
    let P : List ℕ → Type 0 = λ l. HasAll p l in
    leads p (subst P (sym (same s)) steps) (λ u h. subst P (sym (same u)) (closed u h))

-- ---- the graph

-- the rows of the first i states
pub record Rows (graph : List (Vec ℕ Global)) (N : List Member) (i : ℕ) : Type 0 where
  pub size : length graph ≡ i
  pub rows : (k : ℕ) → k < i → row_in graph k ≡ steps N k

pub Rows-all : (graph : List (Vec ℕ Global)) (N : List Member) (i : ℕ) → Rows graph N i → i ≡ 3 * length N → (s : ℕ) → row_in graph s ≡ steps N s
Rows-all graph N i r end s =
    elim (split s i) [
      | inl b ↦ r.rows s b
      | inr past ↦ ap (λ o. option_map_or (λ v. v.items) o []) (slice_get_past graph s (omega (arith, r.size))) ∙ sym (steps-past N s (omega arith))
    ]
  where
    split : (a b : ℕ) → (a < b) ⊎ (b ≤ a)
    split a b = grind arith

-- rows that are the steps have numbers of states that there are
pub IsBelow-steps : (graph : List (Vec ℕ Global)) (N : List Member) → length graph ≡ 3 * length N → ((s : ℕ) → row_in graph s ≡ steps N s)
    → IsBelow (length graph) (row_in graph)
IsBelow-steps graph N size rows = λ s k lt.
    let P : List ℕ → Type 0 = λ l. k < length l in
    let Q : List ℕ → Type 0 = λ l. slice_index l k < 3 * length N in
    let R : ℕ → Type 0 = λ n. slice_index (row_in graph s) k < n in
    subst R (sym size) (subst Q (sym (rows s)) (steps-below N s k (subst P (rows s) lt)))

-- where the rows lead round nowhere, the steps do neither
pub acyclic-steps : (graph : List (Vec ℕ Global)) (N : List Member) → length graph ≡ 3 * length N → ((s : ℕ) → row_in graph s ≡ steps N s)
    → ((s : ℕ) → s < length graph → Leads (row_in graph) s s → ⊥) → (s : ℕ) → s < 3 * length N → Leads (steps N) s s → ⊥
acyclic-steps graph N size rows none = λ s lt leads.
    none s (omega (arith, size)) (Leads-same (steps N) (row_in graph) (λ u. sym (rows u)) s s leads)

-- ---- cells

or-iff : {A B : Type 0} (a b : Bool) → (a ≡ true) ↔ A → (b ≡ true) ↔ B → ((a || b) ≡ true) ↔ (A ⊎ B)
or-iff true b f g = (λ _. inl (f.0 refl), λ _. refl)
or-iff false true f g = (λ _. inr (g.0 refl), λ _. refl)
or-iff false false f g = (λ h. absurd (cc), λ h. elim h [ inl a ↦ f.1 a | inr b ↦ g.1 b ])

pub HasRow-more : (old now : List Cell) (X Y : Member) (N : List Member) (found : List Bool) (j : ℕ) → HasRow old now X N found j
    → slice_get N j ≡ Some Y → HasRow old (now ++ cell X Y (has_way found j) ∷ []) X N found (j + 1)
HasRow-more old now X Y N found j r here = record {
  size = omega (arith, length-append now (cell X Y (has_way found j) ∷ []), r.size);
  kept = λ k b. slice_get-kept now _ k (omega (arith, r.size)) ∙ r.kept k b;
  cells = below_more _ j
      (λ k b. slice_get-kept now _ (length old + k) (omega (arith, r.size)) ∙ r.cells k b)
      (let P : ℕ → Type 0 = λ n. slice_get (now ++ cell X Y (has_way found j) ∷ []) n ≡ Some (cell X Y (has_way found j)) in
      subst P r.size (slice_get-here now (cell X Y (has_way found j))) ∙ sym (ap (λ o. option_map_or (λ Y. Some (cell X Y (has_way found j))) o None) here));
}

-- the rows of the first i segments
pub record CellRows (N : List Member) (cells : List Cell) (i : ℕ) : Type 0 where
  pub size : length cells ≡ i * length N
  pub each : (a : ℕ) → a < i → (j : ℕ) → j < length N → IsCell N a j (slice_get cells (a * length N + j))

pub CellRows-more : (N : List Member) (old new : List Cell) (i : ℕ) (X : Member) (found : List Bool) (row : ℕ → List ℕ) → CellRows N old i
    → slice_get N i ≡ Some X → HasRow old new X N found (length N) → ((s : ℕ) → row s ≡ steps N s)
    → ((t : ℕ) → (is_found found t ≡ true) ↔ Leads row (3 * i) t) → CellRows N new (i + 1)
CellRows-more N old new i X found row r here has same led = record {
  size = omega (arith, r.size, has.size);
  each = below_more _ i
      (λ a b j lt.
      let e = has.kept (a * length N + j) (omega (arith, mul-add-lt a (length N) j i b lt, r.size)) in
      let P : Option Cell → Type 0 = λ o. IsCell N a j o in
      subst P (sym e) (r.each a b j lt))
      (λ j lt.
      let P : ℕ → Type 0 = λ n. slice_get new (n + j) ≡ cell_in X N found j in
      let e = subst P r.size (has.cells j lt) in
      record {
        way = has_way found j;
        is_way = or-iff _ _ (lead (3 * j + 1)) (lead (3 * j + 2));
        is_told = e ∙ sym (ap (λ o. option_map_or (λ X. cell_in X N found j) o None) here);
      });
}
  where
    lead : (t : ℕ) → (is_found found t ≡ true) ↔ Leads (steps N) (3 * i) t
    lead t = (λ h. Leads-same row (steps N) same (3 * i) t ((led t).0 h), λ h. (led t).1 (Leads-same (steps N) row (λ s. sym (same s)) (3 * i) t h))
