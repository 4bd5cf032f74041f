-- Boxes of a matrix: the laws of rows that are alike.
use Rattle.std.proofs.Common.{◌≡◌, ◌<◌, ◌⊎◌, ℕ, zero, suc, ◌==◌, ◌&&◌, Bool, true, false, not, refl, sym, ap, ◌∙◌, arith, inl, inr}
use Rattle.std.proofs.lemmas.Bool.{and_from, and_parts, both_ways, cases_Bool, cases_order, eq-eqb, eqb-true, not-true, not_from_false}
use Rattle.fabric_grid.specs.Below.{all_below}
use Rattle.fabric_grid.specs.Boxes.{agrees}
use Rattle.fabric_grid.proofs.Below.{all_each, all_of}

abbrev pub Matrix : Type 0
Matrix = ℕ → ℕ → ℕ

abbrev pub at : Matrix → ℕ → ℕ → ℕ → Bool
at M m i j = M i j == m

abbrev pub like : Matrix → ℕ → ℕ → ℕ → ℕ → Bool
like M n m i k = all_below (λ j. agrees (at M m i j) (at M m k j)) n

abbrev pub mirror : Matrix → ℕ → ℕ → ℕ → ℕ → Bool
mirror M n m i k = all_below (λ x. agrees (at M m k x) (like M n m x i) && agrees (like M n m x k) (at M m i x)) n

agree_is : (a b : Bool) → agrees a b ≡ true → a ≡ b
agree_is true true h = refl
agree_is true false h = sym h
agree_is false true h = h
agree_is false false h = refl

is_agree : (a b : Bool) → a ≡ b → agrees a b ≡ true
is_agree true true h = refl
is_agree true false h = sym h
is_agree false true h = h
is_agree false false h = refl

pub like_each : (M : Matrix) (n m i k : ℕ) → like M n m i k ≡ true → (j : ℕ) → j < n → at M m i j ≡ at M m k j
like_each M n m i k h j low = agree_is (at M m i j) (at M m k j) (all_each (λ j. agrees (at M m i j) (at M m k j)) n h j low)

like_of : (M : Matrix) (n m i k : ℕ) → ((j : ℕ) → j < n → at M m i j ≡ at M m k j) → like M n m i k ≡ true
like_of M n m i k h = all_of (λ j. agrees (at M m i j) (at M m k j)) n (λ j low. is_agree (at M m i j) (at M m k j) (h j low))

like_refl : (M : Matrix) (n m i : ℕ) → like M n m i i ≡ true
like_refl M n m i = like_of M n m i i (λ j low. refl)

like_trans : (M : Matrix) (n m i k l : ℕ) → like M n m i k ≡ true → like M n m k l ≡ true → like M n m i l ≡ true
like_trans M n m i k l h o = like_of M n m i l (λ j low. like_each M n m i k h j low ∙ like_each M n m k l o j low)

like_sym : (M : Matrix) (n m i k : ℕ) → like M n m i k ≡ true → like M n m k i ≡ true
like_sym M n m i k h = like_of M n m k i (λ j low. sym (like_each M n m i k h j low))

pub mirror_left : (M : Matrix) (n m a b : ℕ) → mirror M n m a b ≡ true → (x : ℕ) → x < n → at M m b x ≡ like M n m x a
mirror_left M n m a b h x low =
    agree_is (at M m b x) (like M n m x a) (and_parts _ _ (all_each (λ x. agrees (at M m b x) (like M n m x a) && agrees (like M n m x b) (at M m a x)) n h x low)).0

pub mirror_right : (M : Matrix) (n m a b : ℕ) → mirror M n m a b ≡ true → (x : ℕ) → x < n → like M n m x b ≡ at M m a x
mirror_right M n m a b h x low =
    agree_is (like M n m x b) (at M m a x) (and_parts _ _ (all_each (λ x. agrees (at M m b x) (like M n m x a) && agrees (like M n m x b) (at M m a x)) n h x low)).1

-- the first hole of its box
pub record Leads (M : Matrix) (n m a b : ℕ) : Type 0 where
  pub is : M a b ≡ m
  pub column : (x : ℕ) → x < b → at M m a x ≡ false
  pub row : (x : ℕ) → x < a → like M n m x a ≡ false

-- of the box of a hole
pub record Owns (M : Matrix) (n m a b i j : ℕ) : Type 0 where
  pub leads : Leads M n m a b
  pub alike : like M n m i a ≡ true
  pub here : at M m a j ≡ true

-- there is one such
rows_are : (M : Matrix) (n m i j a b c d : ℕ) → Owns M n m a b i j → Owns M n m c d i j → a ≡ c
rows_are M n m i j a b c d o p = elim (cases_order a c) [
  | inl is ↦ is
  | inr apart ↦ elim apart [
    | inl less ↦ absurd (both_ways (like M n m a c) (p.leads.row a less) (like_trans M n m a i c (like_sym M n m i a o.alike) p.alike))
    | inr more ↦ absurd (both_ways (like M n m c a) (o.leads.row c more) (like_trans M n m c i a (like_sym M n m i c p.alike) o.alike))
  ]
]

leader_at : (M : Matrix) (n m a b : ℕ) → Leads M n m a b → at M m a b ≡ true
leader_at M n m a b l = eq-eqb (M a b) m l.is

columns_are : (M : Matrix) (n m a b c d : ℕ) → a ≡ c → Leads M n m a b → Leads M n m c d → b ≡ d
columns_are M n m a b c d is l k = elim (cases_order b d) [
  | inl same ↦ same
  | inr apart ↦ elim apart [
    | inl less ↦ absurd (both_ways (at M m c b) (k.column b less) (ap (λ (x : ℕ). at M m x b) (sym is) ∙ leader_at M n m a b l))
    | inr more ↦ absurd (both_ways (at M m a d) (l.column d more) (ap (λ (x : ℕ). at M m x d) is ∙ leader_at M n m c d k))
  ]
]

pub owner : (M : Matrix) (n m i j a b c d : ℕ) → Owns M n m a b i j → Owns M n m c d i j → (a ≡ c) × (b ≡ d)
owner M n m i j a b c d o p =
    let is = rows_are M n m i j a b c d o p in (is, columns_are M n m a b c d is o.leads p.leads)

-- where a box mirrors another, that one leads and mirrors this one
pub mirror_leads : (M : Matrix) (n m a b : ℕ) → a < n → b < n → mirror M n m a b ≡ true → Leads M n m a b → Leads M n m b a
mirror_leads M n m a b low inside h l = record {
  is = eqb-true (M b a) m (mirror_left M n m a b h a low ∙ like_refl M n m a);
  column = λ x less. mirror_left M n m a b h x (omega (arith, less, low)) ∙ l.row x less;
  row = λ x less. mirror_right M n m a b h x (omega (arith, less, inside)) ∙ l.column x less;
}

pub mirror_back : (M : Matrix) (n m a b : ℕ) → mirror M n m a b ≡ true → mirror M n m b a ≡ true
mirror_back M n m a b h = all_of (λ x. agrees (at M m a x) (like M n m x b) && agrees (like M n m x a) (at M m b x)) n (λ x low.
    and_from _ _ (is_agree (at M m a x) (like M n m x b) (sym (mirror_right M n m a b h x low)))
    (is_agree (like M n m x a) (at M m b x) (sym (mirror_left M n m a b h x low))))

-- what the mirrored box owns
pub mirror_owns : (M : Matrix) (n m a b i j : ℕ) → a < n → b < n → i < n → j < n → mirror M n m a b ≡ true → Leads M n m a b
    → like M n m j a ≡ true → at M m a i ≡ true → Owns M n m b a i j
mirror_owns M n m a b i j low inside row column h l alike here = record {
  leads = mirror_leads M n m a b low inside h l;
  alike = mirror_right M n m a b h i row ∙ here;
  here = mirror_left M n m a b h j column ∙ alike;
}

pub owned_is : (M : Matrix) (n m a b i j : ℕ) → j < n → Owns M n m a b i j → M i j ≡ m
owned_is M n m a b i j low o = eqb-true (M i j) m (like_each M n m i a o.alike j low ∙ o.here)

-- ---- the first of which something holds

pub record First (p : ℕ → Bool) (n : ℕ) : Type 0 where
  pub at : ℕ
  pub low : at < n
  pub here : p at ≡ true
  pub before : (x : ℕ) → x < at → p x ≡ false

first_or : (p : ℕ → Bool) (n : ℕ) → (all_below (λ x. not (p x)) n ≡ true) ⊎ First p n
first_or p zero = inl refl
first_or p (suc n) = elim (first_or p n) [
  | inr f ↦ inr (record { at = f.at; low = omega (arith, f.low); here = f.here; before = f.before })
  | inl none ↦ elim (cases_Bool (p n)) [
    | inl here ↦ inr (record {
      at = n;
      low = omega arith;
      here = here;
      before = λ x less. not-true (p x) (all_each (λ x. not (p x)) n none x less);
    })
    | inr not_here ↦ inl (and_from (all_below (λ x. not (p x)) n) (not (p n)) none (not_from_false (p n) not_here))
  ]
]

pub first : (p : ℕ → Bool) (n i : ℕ) → i < n → p i ≡ true → First p n
first p n i low here = elim (first_or p n) [
  | inr f ↦ f
  | inl none ↦ absurd (both_ways (p i) (not-true (p i) (all_each (λ x. not (p x)) n none i low)) here)
]

-- each hole has an owner
pub record Owner (M : Matrix) (n m i j : ℕ) : Type 0 where
  pub row : ℕ
  pub column : ℕ
  pub low : row < n
  pub inside : column < n
  pub owns : Owns M n m row column i j

not_like : (M : Matrix) (n m x a i : ℕ) → like M n m a i ≡ true → like M n m x i ≡ false → like M n m x a ≡ false
not_like M n m x a i h none = elim (cases_Bool (like M n m x a)) [
  | inr is ↦ is
  | inl is ↦ absurd (both_ways (like M n m x i) none (like_trans M n m x a i is h))
]

pub an_owner : (M : Matrix) (n m i j : ℕ) → i < n → j < n → M i j ≡ m → Owner M n m i j
an_owner M n m i j low inside is =
    let row = first (λ x. like M n m x i) n i low (like_refl M n m i) in
    let alike = like_sym M n m row.at i row.here in
    let there = sym (like_each M n m i row.at alike j inside) ∙ eq-eqb (M i j) m is in
    let column = first (λ x. at M m row.at x) n j inside there in
    record {
      row = row.at;
      column = column.at;
      low = row.low;
      inside = column.low;
      owns = record {
        leads = record {
          is = eqb-true (M row.at column.at) m column.here;
          column = column.before;
          row = λ x less. not_like M n m x row.at i row.here (row.before x less);
        };
        alike = alike;
        here = there;
      };
    }
