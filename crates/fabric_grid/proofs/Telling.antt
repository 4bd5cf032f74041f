-- Each hole is told on exactly one line.
use Rattle.std.proofs.Common.{◌≡◌, ◌<◌, ◌⊎◌, ℕ, ◌&&◌, ◌||◌, nat_lt, ◌+◌, ◌*◌, slice_index_or, true, false, not, refl, sym, ap, ◌∙◌, subst, arith, inl, inr}
use Rattle.std.proofs.lemmas.Bool.{and_from, and_parts, both_ways, cases_Bool, cases_order, cond-true, eq-eqb, eqb-false, ltb-true, lt-ltb, ne_eqb, not-true, not_from_false, or_cases, or_left, or_right}
use Rattle.fabric_grid.specs.Boxes.{is_first_column, is_first_row, is_like, leads, mirrors}
use Rattle.fabric_grid.specs.Cells.{cell, cell_number, is_at, is_one_leaf, size}
use Rattle.fabric_grid.specs.Holes.{IsToldAt, IsToldOnce, is_boxed}
use Rattle.fabric_grid.specs.declared.cell.Cell.TheVariants.{Comes}
use Rattle.fabric_grid.specs.declared.members.Grid.{Grid}
use Rattle.fabric_grid.proofs.Below.{all_each, all_of}
use Rattle.fabric_grid.proofs.Matrix.{Leads, Matrix, Owner, Owns, an_owner, at, like, mirror, mirror_back, mirror_leads, mirror_left, mirror_owns, mirror_right, owned_is, owner}

-- the numbers of all cells
abbrev pub kinds : Grid → Matrix
kinds g = λ i j. cell_number (cell g i j)

-- the line at (a, b) tells of the hole (i, j)
pub record On (M : Matrix) (n m a b i j : ℕ) : Type 0 where
  pub low : a < n
  pub inside : b < n
  pub leads : Leads M n m a b
  pub hole : m ≡ 0 → ⊥
  pub line : mirror M n m a b ≡ true → a < b
  pub told : ((like M n m i a ≡ true) × (at M m a j ≡ true)) ⊎ ((mirror M n m a b ≡ true) × (like M n m j a ≡ true) × (at M m a i ≡ true))

own : (M : Matrix) (n m a b i j : ℕ) → i < n → j < n → On M n m a b i j → Owns M n m a b i j ⊎ ((mirror M n m a b ≡ true) × Owns M n m b a i j)
own M n m a b i j row column on = elim on.told [
  | inl t ↦ inl (record { leads = on.leads; alike = t.0; here = t.1 })
  | inr t ↦ inr (t.0, mirror_owns M n m a b i j on.low on.inside row column t.0 on.leads t.1 t.2)
]

on_is : (M : Matrix) (n m a b i j : ℕ) → i < n → j < n → On M n m a b i j → M i j ≡ m
on_is M n m a b i j row column on = elim (own M n m a b i j row column on) [
  | inl o ↦ owned_is M n m a b i j column o
  | inr o ↦ owned_is M n m b a i j column o.1
]

-- not at both ends of an arrow
not_both : (M : Matrix) (n m a b c d i j : ℕ) → On M n m a b i j → On M n m c d i j → mirror M n m c d ≡ true → a ≡ d → b ≡ c → ⊥
not_both M n m a b c d i j on other h is same =
    let back : mirror M n m a b ≡ true = (λ k. mirror M n m (is k) (same k)) ∙ mirror_back M n m c d h in
    omega (arith, on.line back, other.line h, is, same)

alone : (M : Matrix) (n m a b c d i j : ℕ) → i < n → j < n → On M n m a b i j → On M n m c d i j → (a ≡ c) × (b ≡ d)
alone M n m a b c d i j row column on other = elim (own M n m a b i j row column on) [
  | inl o ↦ elim (own M n m c d i j row column other) [
    | inl p ↦ owner M n m i j a b c d o p
    | inr p ↦ let is = owner M n m i j a b d c o p.1 in absurd (not_both M n m a b c d i j on other p.0 is.0 is.1)
  ]
  | inr o ↦ elim (own M n m c d i j row column other) [
    | inl p ↦ let is = owner M n m i j b a c d o.1 p in absurd (not_both M n m c d a b i j other on o.0 (sym is.0) (sym is.1))
    | inr p ↦ let is = owner M n m i j b a d c o.1 p.1 in (is.1, is.0)
  ]
]

pub record Told (M : Matrix) (n m i j : ℕ) : Type 0 where
  pub row : ℕ
  pub column : ℕ
  pub on : On M n m row column i j

at_owner : (M : Matrix) (n m i j : ℕ) (w : Owner M n m i j) → (m ≡ 0 → ⊥) → (mirror M n m w.row w.column ≡ true → w.row < w.column) → Told M n m i j
at_owner M n m i j w hole line = record {
  row = w.row;
  column = w.column;
  on = record { low = w.low; inside = w.inside; leads = w.owns.leads; hole = hole; line = line; told = inl (w.owns.alike, w.owns.here) };
}

at_mirror : (M : Matrix) (n m i j : ℕ) → i < n → j < n → (w : Owner M n m i j) → (m ≡ 0 → ⊥) → mirror M n m w.row w.column ≡ true → w.column < w.row → Told M n m i j
at_mirror M n m i j row column w hole h less = record {
  row = w.column;
  column = w.row;
  on = record {
    low = w.inside;
    inside = w.low;
    hole = hole;
    line = λ _. less;
    leads = mirror_leads M n m w.row w.column w.low w.inside h w.owns.leads;
    told = inr (mirror_back M n m w.row w.column h, mirror_right M n m w.row w.column h j column ∙ w.owns.here, mirror_left M n m w.row w.column h i row ∙ w.owns.alike);
  };
}

told_once : (M : Matrix) (n m i j : ℕ) → i < n → j < n → ((x : ℕ) → M x x ≡ 0) → M i j ≡ m → (m ≡ 0 → ⊥) → Told M n m i j
told_once M n m i j row column none is hole =
    let w = an_owner M n m i j row column is in
    elim (cases_order w.row w.column) [
      | inl same ↦ absurd (hole (sym w.owns.leads.is ∙ (ap (λ (x : ℕ). M w.row x) (sym same) ∙ none w.row)))
      | inr apart ↦ elim apart [
        | inl less ↦ at_owner M n m i j w hole (λ _. less)
        | inr more ↦ elim (cases_Bool (mirror M n m w.row w.column)) [
          | inl h ↦ at_mirror M n m i j row column w hole h more
          | inr h ↦ at_owner M n m i j w hole (λ is_so. absurd (both_ways (mirror M n m w.row w.column) h is_so))
        ]
      ]
    ]

-- ---- grids

on_of : (g : Grid) (i j a b : ℕ) → IsToldAt g i j a b → On (kinds g) (size g) (kinds g a b) a b i j
on_of g i j a b t =
    let parts = and_parts (leads g a b) (not (mirrors g (cell g a b) a b) || nat_lt a b) t.line in
    let rows = and_parts (not (is_at g Comes a b) && is_first_column g (cell g a b) a b) (is_first_row g (cell g a b) a) parts.0 in
    let columns = and_parts (not (is_at g Comes a b)) (is_first_column g (cell g a b) a b) rows.0 in
    record {
      low = t.row;
      inside = t.column;
      leads = record {
        is = refl;
        column = λ x less. not-true (is_at g (cell g a b) a x) (all_each (λ x. not (is_at g (cell g a b) a x)) b columns.1 x less);
        row = λ x less. not-true (is_like g (cell g a b) x a) (all_each (λ x. not (is_like g (cell g a b) x a)) a rows.1 x less);
      };
      hole = eqb-false (kinds g a b) 0 (not-true (is_at g Comes a b) columns.0);
      line = λ h. elim (or_cases (not (mirrors g (cell g a b) a b)) (nat_lt a b) parts.1) [
        | inl none ↦ absurd (both_ways (mirrors g (cell g a b) a b) (not-true (mirrors g (cell g a b) a b) none) h)
        | inr less ↦ ltb-true a b less
      ];
      told = elim (or_cases (is_boxed g a b i j) (mirrors g (cell g a b) a b && is_boxed g a b j i) t.told) [
        | inl u ↦ inl (and_parts (is_like g (cell g a b) i a) (is_at g (cell g a b) a j) u)
        | inr u ↦
            let v = and_parts (mirrors g (cell g a b) a b) (is_boxed g a b j i) u in
            let w = and_parts (is_like g (cell g a b) j a) (is_at g (cell g a b) a i) v.1 in
            inr (v.0, w.0, w.1)
      ];
    }

told_of : (g : Grid) (i j a b : ℕ) → On (kinds g) (size g) (kinds g a b) a b i j → IsToldAt g i j a b
told_of g i j a b on = record {
  row = on.low;
  column = on.inside;
  line = and_from (leads g a b) (not (mirrors g (cell g a b) a b) || nat_lt a b)
      (and_from (not (is_at g Comes a b) && is_first_column g (cell g a b) a b) (is_first_row g (cell g a b) a)
      (and_from (not (is_at g Comes a b)) (is_first_column g (cell g a b) a b)
      (not_from_false (is_at g Comes a b) (ne_eqb (kinds g a b) 0 on.hole))
      (all_of (λ x. not (is_at g (cell g a b) a x)) b (λ x less. not_from_false (is_at g (cell g a b) a x) (on.leads.column x less))))
      (all_of (λ x. not (is_like g (cell g a b) x a)) a (λ x less. not_from_false (is_like g (cell g a b) x a) (on.leads.row x less))))
      (elim (cases_Bool (mirrors g (cell g a b) a b)) [
        | inl h ↦ or_right (not (mirrors g (cell g a b) a b)) (nat_lt a b) (lt-ltb a b (on.line h))
        | inr h ↦ or_left (not (mirrors g (cell g a b) a b)) (nat_lt a b) (not_from_false (mirrors g (cell g a b) a b) h)
      ]);
  told = elim on.told [
    | inl u ↦ or_left (is_boxed g a b i j) (mirrors g (cell g a b) a b && is_boxed g a b j i)
        (and_from (is_like g (cell g a b) i a) (is_at g (cell g a b) a j) u.0 u.1)
    | inr u ↦ or_right (is_boxed g a b i j) (mirrors g (cell g a b) a b && is_boxed g a b j i)
        (and_from (mirrors g (cell g a b) a b) (is_boxed g a b j i) u.0 (and_from (is_like g (cell g a b) j a) (is_at g (cell g a b) a i) u.1 u.2))
  ];
}

-- a member hears itself
own_cell : (g : Grid) (x : ℕ) → kinds g x x ≡ 0
own_cell g x = ap cell_number (cond-true (is_one_leaf g x x) Comes (slice_index_or g.cells.items (x * size g + x) Comes) (eq-eqb (slice_index_or g.leaves.items x 0) (slice_index_or g.leaves.items x 0) refl))

pub told_holes : (g : Grid) (i j a b : ℕ) → i < size g → j < size g → IsToldAt g i j a b → (is_at g Comes i j ≡ false) × (is_at g (cell g a b) i j ≡ true)
told_holes g i j a b row column t =
    let on = on_of g i j a b t in
    let is = on_is (kinds g) (size g) (kinds g a b) a b i j row column on in
    (ne_eqb (kinds g i j) 0 (λ none. on.hole (sym is ∙ none)), eq-eqb (kinds g i j) (kinds g a b) is)

on_at : (g : Grid) (i j a b : ℕ) → i < size g → j < size g → IsToldAt g i j a b → On (kinds g) (size g) (kinds g i j) a b i j
on_at g i j a b row column t =
    let on = on_of g i j a b t in
    subst (λ m. On (kinds g) (size g) m a b i j) (sym (on_is (kinds g) (size g) (kinds g a b) a b i j row column on)) on

pub once : (g : Grid) (i j : ℕ) → i < size g → j < size g → is_at g Comes i j ≡ false → IsToldOnce g i j
once g i j row column hole =
    let t = told_once (kinds g) (size g) (kinds g i j) i j row column (own_cell g) refl (eqb-false (kinds g i j) 0 hole) in
    let told = told_of g i j t.row t.column (subst (λ m. On (kinds g) (size g) m t.row t.column i j) (sym t.on.leads.is) t.on) in
    record {
      row = t.row;
      column = t.column;
      told = told;
      alone = λ a b other. alone (kinds g) (size g) (kinds g i j) a b t.row t.column i j row column (on_at g i j a b row column other) t.on;
    }
