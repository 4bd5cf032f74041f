-- The first rows of a map, as more is counted.
use Rattle.std.proofs.Common.{◌≡◌, ◌∙◌, ap, sym, refl, ℕ, zero, suc, Bool, true, false, cond, nat_lt, List, [], ◌∷◌, ◌++◌, take, drop, arith}
use Rattle.std.proofs.Math.Seq.{drop-nil, take-nil}
use Rattle.std.proofs.lemmas.List.{take-take}
use Rattle.ranked_rows.specs.Rows.{Rows, all_counts, counted, counted_all, counted_in, no_rows, row_of, shown, total, with_counts}
use Rattle.ranked_rows.specs.declared.key_count.KeyCount.{KeyCount}
use Rattle.ranked_rows.proofs.Lists.{drop_taken}

-- what many rows tell behind what others do
pub counted_append : {K C : Type 0} (rank : K → ℕ) (joined : C → C → C) (none : C) (table : Rows K C) (xs ys : List (KeyCount K C))
    → counted_all rank joined none table (xs ++ ys) ≡ counted_all rank joined none (counted_all rank joined none table xs) ys
counted_append rank joined none table [] ys = refl
counted_append rank joined none table (x ∷ xs) ys = counted_append rank joined none (counted rank joined none table x.key x.counts) xs ys

-- what counts come to together
pub record AreSums {C : Type 0} (joined : C → C → C) (none : C) : Type 0 where
  pub grouped : (a b c : C) → joined a (joined b c) ≡ joined (joined a b) c
  pub turned : (a b : C) → joined a b ≡ joined b a
  pub whole : (a b : C) → joined (joined a b) none ≡ joined a b
  pub nothing : joined none none ≡ none

module _ {K C : Type 0} (rank : K → ℕ) (joined : C → C → C) (none : C) (sums : AreSums joined none) where
  -- ---- sums

  with_nothing : (a : C) → joined none (joined a none) ≡ joined a none
  with_nothing a = sums.turned none (joined a none) ∙ sums.whole a none

  with_behind : (a b c : C) → joined a (joined b c) ≡ joined (joined b c) (joined a none)
  with_behind a b c = sums.turned a (joined b c) ∙ sym (sums.whole (joined b c) a) ∙ sym (sums.grouped (joined b c) a none)

  with_among : (a b c : C) → joined (joined a b) c ≡ joined (joined a c) (joined b none)
  with_among a b c =
      sym (sums.grouped a b c) ∙ ap (joined a) (sums.turned b c) ∙ sums.grouped a c b ∙ sym (sums.whole (joined a c) b) ∙ sym (sums.grouped (joined a c) b none)

  with_turned : (a b : C) → joined a b ≡ joined b (joined a none)
  with_turned a b = sums.turned a b ∙ sym (sums.whole b a) ∙ sym (sums.grouped b a none)

  -- ---- what rows come to

  abbrev sum : List (KeyCount K C) → C
  sum rows = total joined none rows

  pub sum_none : (rows : List (KeyCount K C)) → joined (sum rows) none ≡ sum rows
  sum_none [] = sums.nothing
  sum_none (row ∷ rows) = sums.whole row.counts (sum rows)

  -- with one row less, and that
  sum_apart : (n : ℕ) (rows : List (KeyCount K C)) → sum (drop n rows) ≡ joined (sum (drop (suc n) rows)) (sum (drop n (take (suc n) rows)))
  sum_apart zero [] = sym sums.nothing
  sum_apart zero (row ∷ rows) = with_turned row.counts (sum rows)
  sum_apart (suc n) [] = sym sums.nothing
  sum_apart (suc n) (row ∷ rows) = sum_apart n rows

  -- with more of a key
  pub sum_more : (key : K) (counts : C) (rows : List (KeyCount K C)) → sum (with_counts rank joined key counts rows) ≡ joined (sum rows) (joined counts none)
  sum_more key counts [] = sym (with_nothing counts)
  sum_more key counts (row ∷ rows) = by (nat_lt (rank row.key) (rank key)) (nat_lt (rank key) (rank row.key)) (sum_more key counts rows)
    where
      by : (p q : Bool) → sum (with_counts rank joined key counts rows) ≡ joined (sum rows) (joined counts none)
          → sum (cond p (row ∷ with_counts rank joined key counts rows) (cond q (row_of key counts ∷ row ∷ rows) (row_of row.key (joined row.counts counts) ∷ rows)))
          ≡ joined (sum (row ∷ rows)) (joined counts none)
      by true q more = ap (joined row.counts) more ∙ sums.grouped row.counts (sum rows) (joined counts none)
      by false true more = with_behind counts row.counts (sum rows)
      by false false more = with_among row.counts counts (sum rows)

  -- ---- the first rows

  rows_more : (n : ℕ) (key : K) (counts : C) (rows : List (KeyCount K C)) → take n (with_counts rank joined key counts (take n rows)) ≡ take n (with_counts rank joined key counts rows)
  rows_more zero key counts rows = refl
  rows_more (suc n) key counts [] = refl
  rows_more (suc n) key counts (row ∷ rows) = by (nat_lt (rank row.key) (rank key)) (nat_lt (rank key) (rank row.key)) (rows_more n key counts rows)
    where
      by : (p q : Bool) → take n (with_counts rank joined key counts (take n rows)) ≡ take n (with_counts rank joined key counts rows)
          → take (suc n) (cond p (row ∷ with_counts rank joined key counts (take n rows)) (cond q (row_of key counts ∷ row ∷ take n rows) (row_of row.key (joined row.counts counts) ∷ take n rows)))
          ≡ take (suc n) (cond p (row ∷ with_counts rank joined key counts rows) (cond q (row_of key counts ∷ row ∷ rows) (row_of row.key (joined row.counts counts) ∷ rows)))
      by true q more = ap (λ ys. row ∷ ys) more
      by false true more = ap (λ ys. row_of key counts ∷ ys) (take-take n (suc n) (row ∷ rows) (omega arith))
      by false false more = ap (λ ys. row_of row.key (joined row.counts counts) ∷ ys) (take-take n n rows (omega arith))

  others_more : (n : ℕ) (key : K) (counts : C) (rows : List (KeyCount K C))
      → joined (sum (drop n rows)) (sum (drop n (with_counts rank joined key counts (take n rows)))) ≡ sum (drop n (with_counts rank joined key counts rows))
  others_more zero key counts rows = sym (sum_more key counts rows)
  others_more (suc n) key counts [] = ap (λ rows. joined none (sum rows)) (drop-nil n) ∙ sums.nothing ∙ ap sum (sym (drop-nil n))
  others_more (suc n) key counts (row ∷ rows) = by (nat_lt (rank row.key) (rank key)) (nat_lt (rank key) (rank row.key)) (others_more n key counts rows)
    where
      by : (p q : Bool) → joined (sum (drop n rows)) (sum (drop n (with_counts rank joined key counts (take n rows)))) ≡ sum (drop n (with_counts rank joined key counts rows))
          → joined (sum (drop n rows)) (sum (drop (suc n) (cond p (row ∷ with_counts rank joined key counts (take n rows)) (cond q (row_of key counts ∷ row ∷ take n rows) (row_of row.key (joined row.counts counts) ∷ take n rows)))))
          ≡ sum (drop (suc n) (cond p (row ∷ with_counts rank joined key counts rows) (cond q (row_of key counts ∷ row ∷ rows) (row_of row.key (joined row.counts counts) ∷ rows))))
      by true q more = more
      by false true more = sym (sum_apart n (row ∷ rows))
      by false false more = ap (λ ys. joined (sum (drop n rows)) (sum ys)) (drop_taken n rows) ∙ sum_none (drop n rows)

  pub shown_more : (n : ℕ) (rows : List (KeyCount K C)) (key : K) (counts : C) → counted_in rank joined none n (shown joined none n rows) key counts ≡ shown joined none n (with_counts rank joined key counts rows)
  shown_more n rows key counts = λ i. record { rows = rows_more n key counts rows i; others = others_more n key counts rows i }

  none_shown : (n : ℕ) → no_rows {K = K} none ≡ shown {K = K} joined none n []
  none_shown n = λ i. record { rows = sym (take-nil n) i; others = ap sum (sym (drop-nil n)) i }

  pub shown_all : (rows more : List (KeyCount K C)) → counted_all rank joined none (shown joined none 4096 rows) more ≡ shown joined none 4096 (all_counts rank joined rows more)
  shown_all rows [] = refl
  shown_all rows (row ∷ more) =
      ap (λ (table : Rows K C). counted_all rank joined none table more) (shown_more 4096 rows row.key row.counts) ∙ shown_all (with_counts rank joined row.key row.counts rows) more

  pub all_shown : (rows : List (KeyCount K C)) → counted_all rank joined none (no_rows none) rows ≡ shown joined none 4096 (all_counts rank joined [] rows)
  all_shown rows = ap (λ (table : Rows K C). counted_all rank joined none table rows) (none_shown 4096) ∙ shown_all [] rows
