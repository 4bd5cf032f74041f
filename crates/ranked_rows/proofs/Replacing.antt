-- A row that gives way to another, by numbers.
use Rattle.std.proofs.Common.{◌≡◌, ◌∙◌, ap, sym, refl, ℕ, zero, suc, ◌+◌, ◌-◌, ◌<◌, ◌≤◌, ◌⊎◌, inl, inr, Bool, true, false, cond, nat_lt, List, [], ◌∷◌, ◌++◌, length, get_or, slice_set, arith}
use Rattle.std.proofs.lemmas.Bool.{cases_lt, ltb-false, ltb-true}
use Rattle.std.proofs.lemmas.List.{length-set}
use Rattle.std.proofs.lemmas.List.Edits.{get_or-remove_above, get_or-remove_below, length-remove}
use Rattle.std.proofs.lemmas.List.Elements.{All-tail, All-weaker}
use Rattle.std.proofs.lemmas.List.Sorted.{All-permutation, Contains-permutation, IsPermutation-insert, IsPermutation-remove, IsPermutation-trans, length_permutation}
use Rattle.std.specs.List.{All, insert, remove}
use Rattle.std.specs.List.Sorted.{IsPermutation}
use Rattle.ranked_rows.specs.Frequent.{HasNone, place_then}
use Rattle.ranked_rows.specs.Rows.{AreRising, IsNumbering, IsPlaceOf, row_at, row_of, rows_by, with_counts}
use Rattle.ranked_rows.specs.declared.key_count.KeyCount.{KeyCount}
use Rattle.ranked_rows.proofs.Numbering.{at_set, by_inserted, by_kept, get_by, length_by, one_of}
use Rattle.ranked_rows.proofs.Places.{entered, rises}

-- the number that is taken out and put in again
moved : (order : List ℕ) (at put_at n : ℕ) → at < length order → n ≡ get_or order at n → IsPermutation order (insert (remove order at) put_at n)
moved order at put_at n there is =
    IsPermutation-trans order (n ∷ remove order at) (insert (remove order at) put_at n) (IsPermutation-remove order at n there is) (IsPermutation-insert (remove order at) put_at n)

pub place_then_low : (order : List ℕ) (gone at : ℕ) → gone < length order → at ≤ length order → place_then gone at ≤ length (remove order gone)
place_then_low order gone at there inside = by (nat_lt gone at) refl
  where
    by : (b : Bool) → nat_lt gone at ≡ b → cond b (at - 1) at ≤ length (remove order gone)
    by true e = omega (arith, ltb-true gone at e, inside, length-remove order gone there)
    by false e = omega (arith, ltb-false gone at e, there, length-remove order gone there)

module _ {K C : Type 0} where
  abbrev AreIn : List (KeyCount K C) → List ℕ → Type 0
  AreIn rows order = All (λ (n : ℕ). n < length rows) order

  removed_behind : (l : List (KeyCount K C)) (x : KeyCount K C) (xs : List (KeyCount K C)) (at : ℕ) → l ≡ x ∷ [] → l ++ remove xs at ≡ remove (l ++ xs) (suc at)
  removed_behind l x xs at one = ap (λ (k : List (KeyCount K C)). k ++ remove xs at) one ∙ sym (ap (λ (k : List (KeyCount K C)). remove (k ++ xs) (suc at)) one)

  by_removed : (rows : List (KeyCount K C)) (order : List ℕ) (at : ℕ) (d : KeyCount K C) → at < length order → AreIn rows order → rows_by rows (remove order at) ≡ remove (rows_by rows order) at
  by_removed rows [] at d there are = absurd (omega (arith, there))
  by_removed rows (n ∷ ns) zero d there are = sym (ap (λ (l : List (KeyCount K C)). remove (l ++ rows_by rows ns) 0) (one_of rows n d (are 0 0 (omega arith))))
  by_removed rows (n ∷ ns) (suc at) d there are =
      ap (λ (l : List (KeyCount K C)). row_at rows n ++ l) (by_removed rows ns at d (omega (arith, there)) (All-tail (λ (m : ℕ). m < length rows) n ns are))
      ∙ removed_behind (row_at rows n) (get_or rows n d) (rows_by rows ns) at (one_of rows n d (are 0 0 (omega arith)))

  pub numbers_replaced : (rows : List (KeyCount K C)) (order : List ℕ) (at put_at n : ℕ) (r : KeyCount K C) → at < length order → n ≡ get_or order at n → IsNumbering rows order → IsNumbering (slice_set rows n r) (insert (remove order at) put_at n)
  numbers_replaced rows order at put_at n r there is numbers =
      let new = insert (remove order at) put_at n in
      let long : length (slice_set rows n r) ≡ length rows = length-set rows n r in
      let perm = moved order at put_at n there is in
      record {
        inside = All-weaker (λ (m : ℕ). m < length rows) (λ (m : ℕ). m < length (slice_set rows n r)) (λ m lt. omega (arith, lt, long)) new (All-permutation (λ (m : ℕ). m < length rows) order new perm numbers.inside);
        whole = λ m lt. Contains-permutation order new m perm (numbers.whole m (omega (arith, lt, long)));
        many = length_permutation order new perm ∙ numbers.many ∙ sym long;
      }

module _ {K C : Type 0} (rank : K → ℕ) where
  -- no other number is the one that is taken out
  apart_removed : (rows : List (KeyCount K C)) (order : List ℕ) (at n : ℕ) (d : KeyCount K C) → at < length order → n ≡ get_or order at n → AreRising rank (rows_by rows order) → All (λ (m : ℕ). m < length rows) order → All (λ (m : ℕ). n ≡ m → ⊥) (remove order at)
  apart_removed rows order at n d there is rising are = λ k e inside same. by k e inside same (cases_lt k at)
    where
      long : length (remove order at) + 1 ≡ length order
      long = length-remove order at there

      many : length (rows_by rows order) ≡ length order
      many = length_by rows order are

      last : get_or (rows_by rows order) at d ≡ get_or rows n d
      last = get_by rows order at n d are there ∙ ap (λ (m : ℕ). get_or rows m d) (sym is)

      by : (k e : ℕ) → k < length (remove order at) → n ≡ get_or (remove order at) k e → (k < at) ⊎ (at ≤ k) → ⊥
      by k e inside same (inl lt) =
          let mine : get_or (rows_by rows order) k d ≡ get_or rows n d =
          get_by rows order k e d are (omega (arith, inside, long)) ∙ ap (λ (m : ℕ). get_or rows m d) (sym (same ∙ get_or-remove_below order at e k lt there)) in
          omega (arith, rises rank (rows_by rows order) rising k at d lt (omega (arith, there, many)), ap (λ (r : KeyCount K C). rank r.key) mine, ap (λ (r : KeyCount K C). rank r.key) last)
      by k e inside same (inr le) =
          let mine : get_or (rows_by rows order) (k + 1) d ≡ get_or rows n d =
          get_by rows order (k + 1) e d are (omega (arith, inside, long)) ∙ ap (λ (m : ℕ). get_or rows m d) (sym (same ∙ get_or-remove_above order at e k le there)) in
          omega (arith, rises rank (rows_by rows order) rising at (k + 1) d (omega (arith, le)) (omega (arith, inside, long, many)), ap (λ (r : KeyCount K C). rank r.key) mine, ap (λ (r : KeyCount K C). rank r.key) last)

  pub by_replaced : (rows : List (KeyCount K C)) (order : List ℕ) (at put_at n : ℕ) (r : KeyCount K C) → at < length order → put_at ≤ length (remove order at) → n ≡ get_or order at n → n < length rows → AreRising rank (rows_by rows order) → IsNumbering rows order
      → rows_by (slice_set rows n r) (insert (remove order at) put_at n) ≡ insert (remove (rows_by rows order) at) put_at r
  by_replaced rows order at put_at n r there inside is inside_n rising numbers =
      let ms = remove order at in
      let long : length (slice_set rows n r) ≡ length rows = length-set rows n r in
      let are = All-tail (λ (m : ℕ). m < length rows) n ms (All-permutation (λ (m : ℕ). m < length rows) order (n ∷ ms) (IsPermutation-remove order at n there is) numbers.inside) in
      by_inserted (slice_set rows n r) ms put_at n r inside (All-weaker (λ (m : ℕ). m < length rows) (λ (m : ℕ). m < length (slice_set rows n r)) (λ m lt. omega (arith, lt, long)) ms are) (at_set rows n r inside_n)
      ∙ ap (λ (l : List (KeyCount K C)). insert l put_at r) (by_kept rows n r ms (apart_removed rows order at n r there is rising numbers.inside) ∙ by_removed rows order at r there numbers.inside)

  none_at : (n : ℕ) (rows : List (KeyCount K C)) → ((k : ℕ) (d : KeyCount K C) → k < length rows → rank (get_or rows k d).key ≡ n → ⊥) → HasNone rank n rows
  none_at n [] f = tt
  none_at n (row ∷ rows) f = ((λ is. f 0 row (omega arith) is), none_at n rows (λ k d lt is. f (suc k) d (omega (arith, lt)) is))

  module _ (key : K) (rows : List (KeyCount K C)) (at : ℕ) (rising : AreRising rank rows) (place : IsPlaceOf rank (rank key) rows at) (behind : (d : KeyCount K C) → at < length rows → rank key < rank (get_or rows at d).key) where
    pub none_there : HasNone rank (rank key) rows
    none_there = none_at (rank key) rows (λ k d lt is. by k d lt is (cases_lt k at) (cases_lt at k))
      where
        by : (k : ℕ) (d : KeyCount K C) → k < length rows → rank (get_or rows k d).key ≡ rank key → (k < at) ⊎ (at ≤ k) → (at < k) ⊎ (k ≤ at) → ⊥
        by k d lt is (inl low) q = omega (arith, is, place.before k d low)
        by k d lt is (inr high) (inl above) = omega (arith, is, rises rank rows rising at k d above lt, behind d (omega (arith, above, lt)))
        by k d lt is (inr high) (inr le) =
            let same : k ≡ at = omega (arith, high, le) in
            omega (arith, is, ap (λ (j : ℕ). rank (get_or rows j d).key) same, behind d (omega (arith, same, lt)))

    pub entered_without : (joined : C → C → C) (counts : C) (gone : ℕ) → gone < length rows → with_counts rank joined key counts (remove rows gone) ≡ insert (remove rows gone) (place_then gone at) (row_of key counts)
    entered_without joined counts gone there = by (nat_lt gone at) refl
      where
        long : length (remove rows gone) + 1 ≡ length rows
        long = length-remove rows gone there

        low : (k : ℕ) (d : KeyCount K C) → k < gone → rank (get_or (remove rows gone) k d).key ≡ rank (get_or rows k d).key
        low k d lt = ap (λ (r : KeyCount K C). rank r.key) (get_or-remove_below rows gone d k lt there)

        high : (k : ℕ) (d : KeyCount K C) → gone ≤ k → rank (get_or (remove rows gone) k d).key ≡ rank (get_or rows (k + 1) d).key
        high k d le = ap (λ (r : KeyCount K C). rank r.key) (get_or-remove_above rows gone d k le there)

        before_both : (k : ℕ) (d : KeyCount K C) → k + 1 < at → (k < gone) ⊎ (gone ≤ k) → rank (get_or (remove rows gone) k d).key < rank key
        before_both k d lt (inl below) = omega (arith, low k d below, place.before k d (omega (arith, lt)))
        before_both k d lt (inr above) = omega (arith, high k d above, place.before (k + 1) d lt)

        behind_both : (d : KeyCount K C) → at < length (remove rows gone) → (at < gone) ⊎ (gone ≤ at) → at ≤ gone → rank key < rank (get_or (remove rows gone) at d).key
        behind_both d inside (inl lt) le = omega (arith, low at d lt, behind d (omega (arith, inside, long)))
        behind_both d inside (inr ge) le =
            omega (arith, high at d ge, behind d (omega (arith, inside, long)), rises rank rows rising at (at + 1) d (omega arith) (omega (arith, inside, long)))

        by : (b : Bool) → nat_lt gone at ≡ b → with_counts rank joined key counts (remove rows gone) ≡ insert (remove rows gone) (cond b (at - 1) at) (row_of key counts)
        by true e =
            let lt : gone < at = ltb-true gone at e in
            entered rank joined key counts (remove rows gone) (at - 1) (omega (arith, place.inside, long)) (λ k d less. before_both k d (omega (arith, less, lt)) (cases_lt k gone))
            (λ d inside. omega (arith, high (at - 1) d (omega (arith, lt)), ap (λ (j : ℕ). rank (get_or rows j d).key) (to_at lt), behind d (omega (arith, inside, long, lt))))
          where
            to_at : gone < at → at - 1 + 1 ≡ at
            to_at lt = omega (arith, lt)
        by false e =
            let le : at ≤ gone = ltb-false gone at e in
            entered rank joined key counts (remove rows gone) at (omega (arith, le, there, long)) (λ k d less. omega (arith, low k d (omega (arith, less, le)), place.before k d less)) (λ d inside. behind_both d inside (cases_lt at gone) le)
