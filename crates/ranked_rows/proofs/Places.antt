-- Rows in their order, and the place of one.
use Rattle.std.proofs.Common.{◌≡◌, ◌∙◌, ap, refl, ℕ, zero, suc, ◌<◌, ◌≤◌, Bool, true, false, cond, nat_lt, List, [], ◌∷◌, length, take, get_or, arith}
use Rattle.std.proofs.lemmas.Bool.{cond-false, cond-true, lt-ltb, ltb-true, ltb-false, le-ltb}
use Rattle.std.specs.List.{insert}
use Rattle.std.specs.List.Sorted.{IsNonDecreasingBy}
use Rattle.ranked_rows.specs.Rows.{AreRising, AreRisingFrom, row_of, with_counts}
use Rattle.ranked_rows.specs.declared.key_count.KeyCount.{KeyCount}

module _ {K C : Type 0} (rank : K → ℕ) where
  -- the rank of a row
  abbrev pub rank_of : KeyCount K C → ℕ
  rank_of row = rank row.key

  -- ---- order

  pub rise_less : (m n : ℕ) (rows : List (KeyCount K C)) → m ≤ n → AreRisingFrom rank n rows → AreRisingFrom rank m rows
  rise_less m n [] le is = tt
  rise_less m n (row ∷ rows) le is = (omega (arith, le, is.0), is.1)

  pub rising_more : (joined : C → C → C) (least : ℕ) (key : K) (counts : C) (rows : List (KeyCount K C)) → least ≤ rank key → AreRisingFrom rank least rows → AreRisingFrom rank least (with_counts rank joined key counts rows)
  rising_more joined least key counts [] low is = (low, tt)
  rising_more joined least key counts (row ∷ rows) low is =
      by (nat_lt (rank row.key) (rank key)) (nat_lt (rank key) (rank row.key)) refl refl (λ lt. rising_more joined (suc (rank row.key)) key counts rows (omega (arith, lt)) is.1)
    where
      by : (p q : Bool) → nat_lt (rank row.key) (rank key) ≡ p → nat_lt (rank key) (rank row.key) ≡ q
          → (rank row.key < rank key → AreRisingFrom rank (suc (rank row.key)) (with_counts rank joined key counts rows))
          → AreRisingFrom rank least (cond p (row ∷ with_counts rank joined key counts rows) (cond q (row_of key counts ∷ row ∷ rows) (row_of row.key (joined row.counts counts) ∷ rows)))
      by true q e f more = (is.0, more (ltb-true (rank row.key) (rank key) e))
      by false true e f more = (low, (omega (arith, ltb-true (rank key) (rank row.key) f), is.1))
      by false false e f more = (is.0, is.1)

  pub rising_first : (n least : ℕ) (rows : List (KeyCount K C)) → AreRisingFrom rank least rows → AreRisingFrom rank least (take n rows)
  rising_first zero least rows is = tt
  rising_first (suc n) least [] is = tt
  rising_first (suc n) least (row ∷ rows) is = (is.0, rising_first n (suc (rank row.key)) rows is.1)

  pub rising_at : (least : ℕ) (rows : List (KeyCount K C)) → AreRisingFrom rank least rows → (j : ℕ) (d : KeyCount K C) → j < length rows → least ≤ rank (get_or rows j d).key
  rising_at least [] is j d inside = absurd (omega (arith, inside))
  rising_at least (row ∷ rows) is zero d inside = is.0
  rising_at least (row ∷ rows) is (suc j) d inside = omega (arith, is.0, rising_at (suc (rank row.key)) rows is.1 j d (omega (arith, inside)))

  rising_both : (least : ℕ) (rows : List (KeyCount K C)) → AreRisingFrom rank least rows → (i j : ℕ) (d : KeyCount K C) → i < j → j < length rows → rank (get_or rows i d).key < rank (get_or rows j d).key
  rising_both least [] is i j d lt inside = absurd (omega (arith, inside))
  rising_both least (row ∷ rows) is i zero d lt inside = absurd (omega (arith, lt))
  rising_both least (row ∷ rows) is zero (suc j) d lt inside = rising_at (suc (rank row.key)) rows is.1 j d (omega (arith, inside))
  rising_both least (row ∷ rows) is (suc i) (suc j) d lt inside = rising_both (suc (rank row.key)) rows is.1 i j d (omega (arith, lt)) (omega (arith, inside))

  pub rises : (rows : List (KeyCount K C)) → AreRising rank rows → (i j : ℕ) (d : KeyCount K C) → i < j → j < length rows → rank (get_or rows i d).key < rank (get_or rows j d).key
  rises rows is i j d lt inside = rising_both 0 rows is i j d lt inside

  pub never_falls : (rows : List (KeyCount K C)) → AreRising rank rows → IsNonDecreasingBy rank_of rows
  never_falls rows is i j d le inside = by (nat_lt i j) refl
    where
      by : (b : Bool) → nat_lt i j ≡ b → rank (get_or rows i d).key ≤ rank (get_or rows j d).key
      by true e = omega (arith, rising_both 0 rows is i j d (ltb-true i j e) inside)
      by false e =
          let same : i ≡ j = omega (arith, le, ltb-false i j e) in
          omega (arith, ap (λ k. rank (get_or rows k d).key) same)

  -- ---- the place of a key

  abbrev pub AllBefore : K → List (KeyCount K C) → ℕ → Type 0
  AllBefore key rows at = (k : ℕ) (d : KeyCount K C) → k < at → rank (get_or rows k d).key < rank key

  -- no row has it
  pub entered : (joined : C → C → C) (key : K) (counts : C) (rows : List (KeyCount K C)) (at : ℕ) → at ≤ length rows → AllBefore key rows at → ((d : KeyCount K C) → at < length rows → rank key < rank (get_or rows at d).key)
      → with_counts rank joined key counts rows ≡ insert rows at (row_of key counts)
  entered joined key counts [] zero inside before behind = refl
  entered joined key counts [] (suc at) inside before behind = absurd (omega (arith, inside))
  entered joined key counts (row ∷ rows) zero inside before behind =
      let below : rank key < rank row.key = behind row (omega arith) in
      cond-false _ _ _ (le-ltb (rank row.key) (rank key) (omega (arith, below))) ∙ cond-true _ _ _ (lt-ltb (rank key) (rank row.key) below)
  entered joined key counts (row ∷ rows) (suc at) inside before behind =
      cond-true _ _ _ (lt-ltb (rank row.key) (rank key) (before 0 row (omega arith)))
      ∙ ap (λ ys. row ∷ ys) (entered joined key counts rows at (omega (arith, inside)) (λ k d lt. before (suc k) d (omega (arith, lt))) (λ d lt. behind d (omega (arith, lt))))
