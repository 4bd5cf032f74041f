-- A stable sort has one outcome.
use Rattle.std.proofs.Common.{◌≡◌, ◌∙◌, refl, sym, ap, ℕ, suc, ◌<◌, ◌≤◌, Bool, true, false, cond, not, ◌&&◌, List, [], ◌∷◌, filter, length, get_or, arith, IsSortedByKey}
use Rattle.std.specs.Prelude.{◌==◌, nat_lt}
use Rattle.std.specs.List.Sorted.{IsNonDecreasingBy, IsStableByKey, ties}
use Rattle.std.specs.Ordering.{is_lt, nat_cmp}
use Rattle.std.proofs.lemmas.Bool.{eqb-true, eq-eqb, ltb-true, ltb-false, ne_eqb}
use Rattle.std.proofs.lemmas.Bool.Decides.{nat_tests}
use Rattle.std.proofs.lemmas.List.Sorted.{IsNonDecreasingBy-from_sort}
use Rattle.talkers.specs.Order.{in_order, put_in}

module _ {X : Type 0} (number : X → ℕ) where
  -- those of one number
  abbrev at : ℕ → List X → List X
  at n xs = filter (λ x. number x == n) xs

  -- numbers never fall, from this one on
  abbrev Rises : ℕ → List X → Type 0
  Rises least [] = Unit {0}
  Rises least (x ∷ xs) = (least ≤ number x) × Rises (number x) xs

  -- ---- what is put in order is

  passed_by : (m : ℕ) (e f : X) (l k : List X) (a b : Bool) → number f < number e → (number f == m) ≡ a → (number e == m) ≡ b → l ≡ cond b (e ∷ k) k
      → cond a (f ∷ l) l ≡ cond b (e ∷ cond a (f ∷ k) k) (cond a (f ∷ k) k)
  passed_by m e f l k true true lt p q is = absurd (omega (arith, eqb-true _ _ p, eqb-true _ _ q))
  passed_by m e f l k true false lt p q is = ap (λ t. f ∷ t) is
  passed_by m e f l k false true lt p q is = is
  passed_by m e f l k false false lt p q is = is

  at-put_in : (m : ℕ) (e : X) (es : List X) → at m (put_in number e es) ≡ at m (e ∷ es)
  at-put_in m e [] = refl
  at-put_in m e (f ∷ fs) = by_test (nat_lt (number f) (number e)) refl (at-put_in m e fs)
    where
      by_test : (b : Bool) → nat_lt (number f) (number e) ≡ b → at m (put_in number e fs) ≡ at m (e ∷ fs) → at m (cond b (f ∷ put_in number e fs) (e ∷ f ∷ fs)) ≡ at m (e ∷ f ∷ fs)
      by_test true is more = passed_by m e f (at m (put_in number e fs)) (at m fs) (number f == m) (number e == m) (ltb-true _ _ is) refl refl more
      by_test false is more = refl

  kept : (m : ℕ) (all : List X) → at m (in_order number all) ≡ at m all
  kept m [] = refl
  kept m (e ∷ es) = at-put_in m e (in_order number es) ∙ ap (λ l. cond (number e == m) (e ∷ l) l) (kept m es)

  rising-put_in : (least : ℕ) (e : X) (es : List X) → least ≤ number e → Rises least es → Rises least (put_in number e es)
  rising-put_in least e [] le h = (le, tt)
  rising-put_in least e (f ∷ fs) le h = by_test (nat_lt (number f) (number e)) refl (λ more. rising-put_in (number f) e fs more h.1)
    where
      by_test : (b : Bool) → nat_lt (number f) (number e) ≡ b → (number f ≤ number e → Rises (number f) (put_in number e fs)) → Rises least (cond b (f ∷ put_in number e fs) (e ∷ f ∷ fs))
      by_test true is more = (h.0, more (omega (arith, ltb-true _ _ is)))
      by_test false is more = (le, (omega (arith, ltb-false _ _ is), h.1))

  rising : (all : List X) → Rises 0 (in_order number all)
  rising [] = tt
  rising (e ∷ es) = rising-put_in 0 e (in_order number es) (omega arith) (rising es)

  -- ---- and nothing else is

  at_own : (e : X) (es : List X) → at (number e) (e ∷ es) ≡ e ∷ at (number e) es
  at_own e es = ap (λ b. cond b (e ∷ at (number e) es) (at (number e) es)) (eq-eqb (number e) (number e) refl)

  none_before : (m least : ℕ) (es : List X) → m < least → Rises least es → at m es ≡ []
  none_before m least [] lt h = refl
  none_before m least (e ∷ es) lt h =
      ap (λ b. cond b (e ∷ at m es) (at m es)) (ne_eqb (number e) m (λ is. omega (arith, h.0)))
      ∙ none_before m (number e) es (omega (arith, h.0)) h.1

  not_later : (x y : X) (xs ys : List X) → Rises (number x) xs → at (number y) (x ∷ xs) ≡ at (number y) (y ∷ ys) → number x ≤ number y
  not_later x y xs ys h both = by_test (nat_lt (number y) (number x)) refl
    where
      by_test : (b : Bool) → nat_lt (number y) (number x) ≡ b → number x ≤ number y
      by_test false is = ltb-false _ _ is
      by_test true is =
          let none = none_before (number y) (number x) (x ∷ xs) (ltb-true _ _ is) (omega arith, h) in
          let own = at_own y ys in
          absurd cc

  tails_by : (a : Bool) (x y : X) (l k : List X) → cond a (x ∷ l) l ≡ cond a (y ∷ k) k → l ≡ k
  tails_by true x y l k same = cc
  tails_by false x y l k same = same

  same_by : (n m : ℕ) (a b : List X) → Rises n a → Rises m b → ((z : X) → at (number z) a ≡ at (number z) b) → a ≡ b
  same_by n m [] [] ra rb same = refl
  same_by n m [] (y ∷ ys) ra rb same = let own = at_own y ys in let both = same y in absurd cc
  same_by n m (x ∷ xs) [] ra rb same = let own = at_own x xs in let both = same x in absurd cc
  same_by n m (x ∷ xs) (y ∷ ys) ra rb same =
      let before = not_later x y xs ys ra.1 (same y) in
      let behind = not_later y x ys xs rb.1 (sym (same x)) in
      let together : number x ≡ number y = omega (arith, before, behind) in
      let own = at_own x xs in
      let other : at (number x) (y ∷ ys) ≡ y ∷ at (number x) ys = ap (λ b. cond b (y ∷ at (number x) ys) (at (number x) ys)) (eq-eqb (number y) (number x) (sym together)) in
      let here = same x in
      let head : x ≡ y = cc in
      let tails : (z : X) → at (number z) xs ≡ at (number z) ys = λ z.
      tails_by (number x == number z) x y (at (number z) xs) (at (number z) ys) (same z ∙ ap (λ t. cond (t == number z) (y ∷ at (number z) ys) (at (number z) ys)) (sym together)) in
      let rest = same_by (number x) (number y) xs ys ra.1 rb.1 tails in
      cc

  -- ---- what a stable sort gives

  rising-from : (least : ℕ) (es : List X) → ((k : ℕ) (d : X) → k < length es → least ≤ number (get_or es k d)) → IsNonDecreasingBy number es → Rises least es
  rising-from least [] above up = tt
  rising-from least (e ∷ es) above up =
      (above 0 e (omega arith), rising-from (number e) es (λ k d lt. up 0 (suc k) d (omega arith) (omega arith)) (λ i j d le lt. up (suc i) (suc j) d (omega arith) (omega arith)))

  tie_is : (m k : ℕ) → not (is_lt (nat_cmp m k)) && not (is_lt (nat_cmp k m)) ≡ (k == m)
  tie_is m k = grind (arith, nat_tests)

  at-ties : (x : X) (es : List X) → filter (ties (λ (a b : X). is_lt (nat_cmp (number a) (number b))) x) es ≡ at (number x) es
  at-ties x [] = refl
  at-ties x (e ∷ es) =
      ap (λ b. cond b (e ∷ filter (ties (λ (a b : X). is_lt (nat_cmp (number a) (number b))) x) es) (filter (ties (λ (a b : X). is_lt (nat_cmp (number a) (number b))) x) es)) (tie_is (number x) (number e))
      ∙ ap (λ l. cond (number e == number x) (e ∷ l) l) (at-ties x es)

  pub sorted_is : (all es : List X) → IsSortedByKey number nat_cmp es → IsStableByKey number nat_cmp all es → es ≡ in_order number all
  sorted_is all es sorted stable =
      same_by 0 0 es (in_order number all)
      (rising-from 0 es (λ k d lt. omega arith) (IsNonDecreasingBy-from_sort number es sorted))
      (rising all)
      (λ z. sym (at-ties z es) ∙ stable z ∙ at-ties z all ∙ sym (kept (number z) all))
