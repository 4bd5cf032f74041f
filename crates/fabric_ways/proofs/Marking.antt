-- How marks grow.
use Rattle.std.proofs.Common.{◌≡◌, ℕ, ◌+◌, ◌<◌, ◌≤◌, ◌⊎◌, ◌↔◌, Bool, true, false, ◌||◌, List, length, slice_index, slice_set, if◌then◌else◌, refl, sym, ◌∙◌, subst, inl, inr, arith, below_more}
use Rattle.std.proofs.lemmas.Grind.{elements}
use Rattle.fabric_ways.specs.Leads.{HasAll, IsClosed, Keeps, IsWithin, Leads, is_found, left}

-- what marking the first i numbers of a row leaves
pub record Marked (old now : List Bool) (row : List ℕ) (i : ℕ) (new : Bool) : Type 0 where
  pub keeps : Keeps old now
  pub all : (k : ℕ) → k < i → is_found now (slice_index row k) ≡ true
  pub within : (p : ℕ → Bool) → ((k : ℕ) → k < i → p (slice_index row k) ≡ true) → IsWithin old p → IsWithin now p
  pub same : new ≡ false → now ≡ old
  pub least : left now ≤ left old
  pub fewer : new ≡ true → left now < left old

-- ---- one mark

pub set-keeps : (now : List Bool) (t u : ℕ) → t < length now → is_found now u ≡ true → is_found (slice_set now t true) u ≡ true
set-keeps now t u lt h = grind (arith, elements)

pub set-within : (now : List Bool) (t u : ℕ) → t < length now → is_found (slice_set now t true) u ≡ true → (is_found now u ≡ true) ⊎ (u ≡ t)
set-within now t u lt h = grind (arith, elements)

pub set-here : (now : List Bool) (t : ℕ) → t < length now → is_found (slice_set now t true) t ≡ true
set-here now t lt = grind (arith, elements)

-- one more number of the row is marked
pub Marked-more : (old now next : List Bool) (row : List ℕ) (i t : ℕ) (new is_new : Bool)
    → Marked old now row i new → t ≡ slice_index row i → t < length now → next ≡ slice_set now t true
    → (is_new ≡ false → next ≡ now) → left next + (if is_new then 1 else 0) ≡ left now
    → Marked old next row (i + 1) (new || is_new)
Marked-more old now next row i t new is_new m here lt set_is same sum = record {
  keeps = λ u h. let P : List Bool → Type 0 = λ l. is_found l u ≡ true in subst P (sym set_is) (set-keeps now t u lt (m.keeps u h));
  all = below_more _ i
      (λ k b. let P : List Bool → Type 0 = λ l. is_found l (slice_index row k) ≡ true in subst P (sym set_is) (set-keeps now t _ lt (m.all k b)))
      (let P : List Bool → Type 0 = λ l. is_found l (slice_index row i) ≡ true in
      let Q : ℕ → Type 0 = λ u. is_found (slice_set now t true) u ≡ true in
      subst P (sym set_is) (subst Q here (set-here now t lt)));
  within = λ p all w u h.
      let P : List Bool → Type 0 = λ l. is_found l u ≡ true in
      let Q : ℕ → Type 0 = λ v. p v ≡ true in
      elim (set-within now t u lt (subst P set_is h)) [
        | inl f ↦ m.within p (λ k b. all k (omega arith)) w u f
        | inr e ↦ subst Q (sym (e ∙ here)) (all i (omega arith))
      ];
  same = more_same new is_new m.same same;
  least = more_least is_new m.least sum;
  fewer = more_fewer new is_new m.least m.fewer sum;
}
  where
    more_same : (a b : Bool) → (a ≡ false → now ≡ old) → (b ≡ false → next ≡ now) → (a || b) ≡ false → next ≡ old
    more_same true b f g e = absurd (cc)
    more_same false true f g e = absurd (cc)
    more_same false false f g e = g refl ∙ f refl

    more_least : (b : Bool) → left now ≤ left old → left next + (if b then 1 else 0) ≡ left now → left next ≤ left old
    more_least true f e = omega arith
    more_least false f e = omega arith

    more_fewer : (a b : Bool) → left now ≤ left old → (a ≡ true → left now < left old) → left next + (if b then 1 else 0) ≡ left now → (a || b) ≡ true → left next < left old
    more_fewer true true f g e h = omega (arith, g refl)
    more_fewer true false f g e h = omega (arith, g refl)
    more_fewer false true f g e h = omega arith
    more_fewer false false f g e h = absurd (cc)

-- ---- one pass over the rows

-- what a pass over the first i rows leaves
pub record Spread (old now : List Bool) (row : ℕ → List ℕ) (i : ℕ) (new : Bool) : Type 0 where
  pub keeps : Keeps old now
  pub within : (p : ℕ → Bool) → IsClosed row p → IsWithin old p → IsWithin now p
  pub same : new ≡ false → now ≡ old
  pub closed : new ≡ false → (s : ℕ) → s < i → is_found now s ≡ true → HasAll (is_found now) (row s)
  pub least : left now ≤ left old
  pub fewer : new ≡ true → left now < left old

-- what marking one row leaves
pub record OneRow (now next : List Bool) (row : List ℕ) (is_new : Bool) : Type 0 where
  pub keeps : Keeps now next
  pub all : HasAll (is_found next) row
  pub within : (p : ℕ → Bool) → HasAll p row → IsWithin now p → IsWithin next p
  pub same : is_new ≡ false → next ≡ now
  pub least : left next ≤ left now
  pub fewer : is_new ≡ true → left next < left now

-- the row of a marked state
pub Spread-marked : (old now next : List Bool) (row : ℕ → List ℕ) (i : ℕ) (new is_new : Bool)
    → Spread old now row i new → is_found now i ≡ true → OneRow now next (row i) is_new → Spread old next row (i + 1) (new || is_new)
Spread-marked old now next row i new is_new m here one = record {
  keeps = λ u h. one.keeps u (m.keeps u h);
  within = λ p closed w u h. one.within p (closed i (m.within p closed w i here)) (m.within p closed w) u h;
  same = both_same new is_new m.same one.same;
  closed = both_closed new is_new m.closed one.same;
  least = omega (arith, m.least, one.least);
  fewer = both_fewer new is_new m.least m.fewer one.least one.fewer;
}
  where
    both_same : (a b : Bool) → (a ≡ false → now ≡ old) → (b ≡ false → next ≡ now) → (a || b) ≡ false → next ≡ old
    both_same true b f g e = absurd (cc)
    both_same false true f g e = absurd (cc)
    both_same false false f g e = g refl ∙ f refl

    both_closed : (a b : Bool) → (a ≡ false → (s : ℕ) → s < i → is_found now s ≡ true → HasAll (is_found now) (row s))
        → (b ≡ false → next ≡ now) → (a || b) ≡ false → (s : ℕ) → s < i + 1 → is_found next s ≡ true → HasAll (is_found next) (row s)
    both_closed true b f g e = absurd (cc)
    both_closed false true f g e = absurd (cc)
    both_closed false false f g e =
        below_more (λ s. is_found next s ≡ true → HasAll (is_found next) (row s)) i
        (λ s b h.
        let P : List Bool → Type 0 = λ l. is_found l s ≡ true in
        let Q : List Bool → Type 0 = λ l. HasAll (is_found l) (row s) in
        subst Q (sym (g refl)) (f refl s b (subst P (g refl) h)))
        (λ h. one.all)

    both_fewer : (a b : Bool) → left now ≤ left old → (a ≡ true → left now < left old) → left next ≤ left now → (b ≡ true → left next < left now) → (a || b) ≡ true → left next < left old
    both_fewer true b f g e h q = omega (arith, g refl)
    both_fewer false true f g e h q = omega (arith, h refl)
    both_fewer false false f g e h q = absurd (cc)

-- a state that isn't marked
pub Spread-unmarked : (old now : List Bool) (row : ℕ → List ℕ) (i : ℕ) (new : Bool)
    → Spread old now row i new → is_found now i ≡ false → Spread old now row (i + 1) new
Spread-unmarked old now row i new m here = record {
  keeps = m.keeps;
  within = m.within;
  same = m.same;
  closed = λ e. below_more (λ s. is_found now s ≡ true → HasAll (is_found now) (row s)) i (m.closed e) (λ h. absurd (cc));
  least = m.least;
  fewer = m.fewer;
}

-- ---- where steps lead

-- the steps from a state are marked, and nothing that steps don't lead to
pub record Reached (now : List Bool) (row : ℕ → List ℕ) (start : ℕ) : Type 0 where
  pub all : HasAll (is_found now) (row start)
  pub within : (p : ℕ → Bool) → HasAll p (row start) → IsClosed row p → IsWithin now p

pub Reached-init : (old now : List Bool) (row : ℕ → List ℕ) (start : ℕ) → ((t : ℕ) → is_found old t ≡ false) → HasAll (is_found now) (row start)
    → ((p : ℕ → Bool) → HasAll p (row start) → IsWithin old p → IsWithin now p) → Reached now row start
Reached-init old now row start none all within = record {
  all = all;
  within = λ p steps closed. within p steps (λ t h. let e = none t in absurd (cc));
}

pub Reached-more : (now next : List Bool) (row : ℕ → List ℕ) (start : ℕ) → Reached now row start → Keeps now next
    → ((p : ℕ → Bool) → IsClosed row p → IsWithin now p → IsWithin next p) → Reached next row start
Reached-more now next row start m keeps within = record {
  all = λ k b. keeps _ (m.all k b);
  within = λ p steps closed. within p closed (m.within p steps closed);
}

pub Reached-all : (now : List Bool) (row : ℕ → List ℕ) (start : ℕ) → Reached now row start → IsClosed row (is_found now)
    → (t : ℕ) → (is_found now t ≡ true) ↔ Leads row start t
Reached-all now row start m closed t = (λ h p steps shut. m.within p steps shut t h, λ leads. leads (is_found now) m.all closed)
