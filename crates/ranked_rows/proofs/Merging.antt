-- The tables of two parts, put together.
use Rattle.std.proofs.Common.{◌≡◌, ◌∙◌, ap, sym, refl, ℕ, zero, suc, ◌<◌, ◌≤◌, ◌⊎◌, inl, inr, List, [], ◌∷◌, ◌++◌, take, drop, arith}
use Rattle.std.proofs.lemmas.Bool.{cases_lt, cond-true, cond-false, le-ltb, lt-ltb}
use Rattle.ranked_rows.specs.Rows.{AreRisingFrom, Rows, all_counts, row_of, shown, together, total, with_counts, with_others}
use Rattle.ranked_rows.specs.declared.key_count.KeyCount.{KeyCount}
use Rattle.ranked_rows.proofs.Places.{rise_less, rising_first, rising_more}
use Rattle.ranked_rows.proofs.Shown.{AreSums, shown_all, sum_more, sum_none}

-- a number below, equal to, or above another
pub data Order (m n : ℕ) : Type 0 where
  below : m < n → Order m n
  equal : m ≡ n → Order m n
  above : n < m → Order m n

order : (m n : ℕ) → Order m n
order m n = by (cases_lt m n) (cases_lt n m)
  where
    by : (m < n) ⊎ (n ≤ m) → (n < m) ⊎ (m ≤ n) → Order m n
    by (inl lt) q = below lt
    by (inr ge) (inl gt) = above gt
    by (inr ge) (inr le) = equal (omega (arith, ge, le))

module _ {K C : Type 0} (rank : K → ℕ) (joined : C → C → C) (none : C) (sums : AreSums joined none) where
  abbrev Map : Type 0
  Map = List (KeyCount K C)

  -- what rows come to
  abbrev sum : Map → C
  sum rows = total joined none rows

  -- with more of a key
  abbrev counting : K → C → Map → Map
  counting key counts rows = with_counts rank joined key counts rows

  -- with what many rows tell
  abbrev all : Map → Map → Map
  all start rows = all_counts rank joined start rows

  -- ---- sums

  none_before : (a b : C) → joined none (joined a b) ≡ joined a b
  none_before a b = sums.turned none (joined a b) ∙ sums.whole a b

  none_among : (b c : C) → joined (joined b none) c ≡ joined b c
  none_among b c = sums.turned (joined b none) c ∙ sums.grouped c b none ∙ sums.whole c b ∙ sums.turned c b

  none_between : (a b c : C) → joined (joined a (joined b none)) c ≡ joined a (joined b c)
  none_between a b c = sym (sums.grouped a (joined b none) c) ∙ ap (joined a) (none_among b c)

  -- ---- a row more

  before : (key : K) (counts : C) (row : KeyCount K C) (rows : Map) → rank row.key < rank key → counting key counts (row ∷ rows) ≡ row ∷ counting key counts rows
  before key counts row rows lt = cond-true _ _ _ (lt-ltb (rank row.key) (rank key) lt)

  behind : (key : K) (counts : C) (row : KeyCount K C) (rows : Map) → rank key < rank row.key → counting key counts (row ∷ rows) ≡ row_of key counts ∷ row ∷ rows
  behind key counts row rows lt =
      cond-false _ _ _ (le-ltb (rank row.key) (rank key) (omega (arith, lt))) ∙ cond-true _ _ _ (lt-ltb (rank key) (rank row.key) lt)

  same : (key : K) (counts : C) (row : KeyCount K C) (rows : Map) → rank row.key ≡ rank key → counting key counts (row ∷ rows) ≡ row_of row.key (joined row.counts counts) ∷ rows
  same key counts row rows is =
      cond-false _ _ _ (le-ltb (rank row.key) (rank key) (omega (arith, is))) ∙ cond-false _ _ _ (le-ltb (rank key) (rank row.key) (omega (arith, is)))

  -- ---- two rows

  -- rows of different ranks stand in the order of these, whichever came first
  commute : (k1 k2 : K) (c1 c2 : C) (rows : Map) → rank k1 < rank k2 → counting k1 c1 (counting k2 c2 rows) ≡ counting k2 c2 (counting k1 c1 rows)
  commute k1 k2 c1 c2 [] lt = behind k1 c1 (row_of k2 c2) [] lt ∙ sym (before k2 c2 (row_of k1 c1) [] lt)
  commute k1 k2 c1 c2 (x ∷ rows) lt = by (order (rank x.key) (rank k1)) (order (rank x.key) (rank k2)) (commute k1 k2 c1 c2 rows lt)
    where
      by : Order (rank x.key) (rank k1) → Order (rank x.key) (rank k2) → counting k1 c1 (counting k2 c2 rows) ≡ counting k2 c2 (counting k1 c1 rows)
          → counting k1 c1 (counting k2 c2 (x ∷ rows)) ≡ counting k2 c2 (counting k1 c1 (x ∷ rows))
      by (below one) q more =
          let two : rank x.key < rank k2 = omega (arith, one, lt) in
          ap (counting k1 c1) (before k2 c2 x rows two) ∙ before k1 c1 x (counting k2 c2 rows) one ∙ ap (λ (l : Map). x ∷ l) more
          ∙ sym (before k2 c2 x (counting k1 c1 rows) two) ∙ ap (counting k2 c2) (sym (before k1 c1 x rows one))
      by (equal one) q more =
          let two : rank x.key < rank k2 = omega (arith, one, lt) in
          let new : KeyCount K C = row_of x.key (joined x.counts c1) in
          ap (counting k1 c1) (before k2 c2 x rows two) ∙ same k1 c1 x (counting k2 c2 rows) one
          ∙ sym (before k2 c2 new rows two) ∙ ap (counting k2 c2) (sym (same k1 c1 x rows one))
      by (above one) (below two) more =
          ap (counting k1 c1) (before k2 c2 x rows two) ∙ behind k1 c1 x (counting k2 c2 rows) one
          ∙ ap (λ (l : Map). row_of k1 c1 ∷ l) (sym (before k2 c2 x rows two)) ∙ sym (before k2 c2 (row_of k1 c1) (x ∷ rows) lt) ∙ ap (counting k2 c2) (sym (behind k1 c1 x rows one))
      by (above one) (equal two) more =
          let new : KeyCount K C = row_of x.key (joined x.counts c2) in
          ap (counting k1 c1) (same k2 c2 x rows two) ∙ behind k1 c1 new rows one
          ∙ ap (λ (l : Map). row_of k1 c1 ∷ l) (sym (same k2 c2 x rows two)) ∙ sym (before k2 c2 (row_of k1 c1) (x ∷ rows) lt) ∙ ap (counting k2 c2) (sym (behind k1 c1 x rows one))
      by (above one) (above two) more =
          ap (counting k1 c1) (behind k2 c2 x rows two) ∙ behind k1 c1 (row_of k2 c2) (x ∷ rows) lt
          ∙ ap (λ (l : Map). row_of k1 c1 ∷ l) (sym (behind k2 c2 x rows two)) ∙ sym (before k2 c2 (row_of k1 c1) (x ∷ rows) lt) ∙ ap (counting k2 c2) (sym (behind k1 c1 x rows one))

  -- what is counted of one rank counts together
  again : (k1 k2 : K) (c1 c2 : C) (rows : Map) → rank k2 ≡ rank k1 → counting k1 c1 (counting k2 c2 rows) ≡ counting k2 (joined c2 c1) rows
  again k1 k2 c1 c2 [] is = same k1 c1 (row_of k2 c2) [] is
  again k1 k2 c1 c2 (x ∷ rows) is = by (order (rank x.key) (rank k2)) (again k1 k2 c1 c2 rows is)
    where
      by : Order (rank x.key) (rank k2) → counting k1 c1 (counting k2 c2 rows) ≡ counting k2 (joined c2 c1) rows
          → counting k1 c1 (counting k2 c2 (x ∷ rows)) ≡ counting k2 (joined c2 c1) (x ∷ rows)
      by (below lt) more =
          let one : rank x.key < rank k1 = omega (arith, lt, is) in
          ap (counting k1 c1) (before k2 c2 x rows lt) ∙ before k1 c1 x (counting k2 c2 rows) one ∙ ap (λ (l : Map). x ∷ l) more ∙ sym (before k2 (joined c2 c1) x rows lt)
      by (equal e) more =
          let one : rank x.key ≡ rank k1 = e ∙ is in
          ap (counting k1 c1) (same k2 c2 x rows e) ∙ same k1 c1 (row_of x.key (joined x.counts c2)) rows one
          ∙ ap (λ (t : C). row_of x.key t ∷ rows) (sym (sums.grouped x.counts c2 c1)) ∙ sym (same k2 (joined c2 c1) x rows e)
      by (above gt) more =
          ap (counting k1 c1) (behind k2 c2 x rows gt) ∙ same k1 c1 (row_of k2 c2) (x ∷ rows) is ∙ sym (behind k2 (joined c2 c1) x rows gt)

  -- ---- rows whose ranks rise

  rise_all : (start rows : Map) → AreRisingFrom rank 0 start → AreRisingFrom rank 0 (all start rows)
  rise_all start [] is = is
  rise_all start (row ∷ rows) is = rise_all (counting row.key row.counts start) rows (rising_more rank joined 0 row.key row.counts start (omega arith) is)

  -- ---- many rows on top of others

  all_append : (start xs ys : Map) → all start (xs ++ ys) ≡ all (all start xs) ys
  all_append start [] ys = refl
  all_append start (x ∷ xs) ys = all_append (counting x.key x.counts start) xs ys

  -- a row below all of them may come behind them
  under : (key : K) (counts : C) (start rows : Map) → AreRisingFrom rank (suc (rank key)) rows → counting key counts (all start rows) ≡ all (counting key counts start) rows
  under key counts start [] is = refl
  under key counts start (row ∷ rows) is =
      under key counts (counting row.key row.counts start) rows (rise_less rank (suc (rank key)) (suc (rank row.key)) rows (omega (arith, is.0)) is.1)
      ∙ ap (λ (l : Map). all l rows) (commute key row.key counts row.counts start (omega (arith, is.0)))

  -- a row that is counted with them may come behind them
  into : (least : ℕ) (key : K) (counts : C) (start rows : Map) → AreRisingFrom rank least rows → all start (counting key counts rows) ≡ counting key counts (all start rows)
  into least key counts start [] is = refl
  into least key counts start (row ∷ rows) is = by (order (rank row.key) (rank key)) (into (suc (rank row.key)) key counts (counting row.key row.counts start) rows is.1)
    where
      by : Order (rank row.key) (rank key) → all (counting row.key row.counts start) (counting key counts rows) ≡ counting key counts (all (counting row.key row.counts start) rows)
          → all start (counting key counts (row ∷ rows)) ≡ counting key counts (all start (row ∷ rows))
      by (below lt) more = ap (all start) (before key counts row rows lt) ∙ more
      by (equal e) more =
          let next : AreRisingFrom rank (suc (rank key)) rows = rise_less rank (suc (rank key)) (suc (rank row.key)) rows (omega (arith, e)) is.1 in
          ap (all start) (same key counts row rows e)
          ∙ ap (λ (l : Map). all l rows) (sym (again key row.key counts row.counts start e))
          ∙ sym (under key counts (counting row.key row.counts start) rows next)
      by (above gt) more =
          let next : AreRisingFrom rank (suc (rank key)) rows = rise_less rank (suc (rank key)) (suc (rank row.key)) rows (omega (arith, gt)) is.1 in
          ap (all start) (behind key counts row rows gt)
          ∙ ap (λ (l : Map). all l rows) (sym (commute key row.key counts row.counts start gt))
          ∙ sym (under key counts (counting row.key row.counts start) rows next)

  counted_first : (start middle rows : Map) → AreRisingFrom rank 0 middle → all start (all middle rows) ≡ all (all start middle) rows
  counted_first start middle [] is = refl
  counted_first start middle (row ∷ rows) is =
      counted_first start (counting row.key row.counts middle) rows (rising_more rank joined 0 row.key row.counts middle (omega arith) is)
      ∙ ap (λ (l : Map). all l rows) (into 0 row.key row.counts start middle is)

  -- what one part counted on top of what another did is what both did
  pub on_top : (xs ys : Map) → all (all [] xs) (all [] ys) ≡ all [] (xs ++ ys)
  on_top xs ys = counted_first (all [] xs) [] ys tt ∙ sym (all_append [] xs ys)

  -- ---- row by row

  -- a row below all that come stays the first
  stays : (row : KeyCount K C) (start rows : Map) → AreRisingFrom rank (suc (rank row.key)) rows → all (row ∷ start) rows ≡ row ∷ all start rows
  stays row start [] is = refl
  stays row start (more ∷ rows) is =
      ap (λ (l : Map). all l rows) (before more.key more.counts row start (omega (arith, is.0)))
      ∙ stays row (counting more.key more.counts start) rows (rise_less rank (suc (rank row.key)) (suc (rank more.key)) rows (omega (arith, is.0)) is.1)

  -- on their own they are what they are
  pub alone : (least : ℕ) (rows : Map) → AreRisingFrom rank least rows → all [] rows ≡ rows
  alone least [] is = refl
  alone least (row ∷ rows) is = stays row [] rows is.1 ∙ ap (λ (l : Map). row ∷ l) (alone (suc (rank row.key)) rows is.1)

  at_below : (a b : KeyCount K C) (start rows : Map) → rank a.key < rank b.key → AreRisingFrom rank (suc (rank b.key)) rows → all (a ∷ start) (b ∷ rows) ≡ a ∷ all start (b ∷ rows)
  at_below a b start rows lt is =
      ap (λ (l : Map). all l rows) (before b.key b.counts a start lt)
      ∙ stays a (counting b.key b.counts start) rows (rise_less rank (suc (rank a.key)) (suc (rank b.key)) rows (omega (arith, lt)) is)

  at_equal : (a b : KeyCount K C) (start rows : Map) → rank a.key ≡ rank b.key → AreRisingFrom rank (suc (rank b.key)) rows
      → all (a ∷ start) (b ∷ rows) ≡ row_of a.key (joined a.counts b.counts) ∷ all start rows
  at_equal a b start rows e is =
      ap (λ (l : Map). all l rows) (same b.key b.counts a start e)
      ∙ stays (row_of a.key (joined a.counts b.counts)) start rows (rise_less rank (suc (rank a.key)) (suc (rank b.key)) rows (omega (arith, e)) is)

  at_above : (a b : KeyCount K C) (start rows : Map) → rank b.key < rank a.key → AreRisingFrom rank (suc (rank b.key)) rows → all (a ∷ start) (b ∷ rows) ≡ b ∷ all (a ∷ start) rows
  at_above a b start rows lt is = ap (λ (l : Map). all l rows) (behind b.key b.counts a start lt) ∙ stays b (a ∷ start) rows is

  -- the first rows of the one are enough for the first of both
  kept : (n m : ℕ) → n ≤ m → (la lb : ℕ) (a b : Map) → AreRisingFrom rank la a → AreRisingFrom rank lb b → take n (all a (take m b)) ≡ take n (all a b)
  kept zero m le la lb a b ra rb = refl
  kept (suc n) zero le la lb a b ra rb = absurd (omega (arith, le))
  kept (suc n) (suc m) le la lb a [] ra rb = refl
  kept (suc n) (suc m) le la lb [] (y ∷ b) ra rb =
      let next : n ≤ m = omega (arith, le) in
      let first = rising_first rank m (suc (rank y.key)) b rb.1 in
      ap (take (suc n)) (stays y [] (take m b) first) ∙ ap (λ (l : Map). y ∷ l) (kept n m next 0 (suc (rank y.key)) [] b tt rb.1) ∙ ap (take (suc n)) (sym (stays y [] b rb.1))
  kept (suc n) (suc m) le la lb (x ∷ a) (y ∷ b) ra rb =
      by (order (rank x.key) (rank y.key)) (kept n (suc m) (omega (arith, le)) (suc (rank x.key)) lb a (y ∷ b) ra.1 rb)
      (kept n m (omega (arith, le)) (suc (rank x.key)) (suc (rank y.key)) a b ra.1 rb.1) (kept n m (omega (arith, le)) la (suc (rank y.key)) (x ∷ a) b ra rb.1)
    where
      by : Order (rank x.key) (rank y.key) → take n (all a (take (suc m) (y ∷ b))) ≡ take n (all a (y ∷ b)) → take n (all a (take m b)) ≡ take n (all a b)
          → take n (all (x ∷ a) (take m b)) ≡ take n (all (x ∷ a) b) → take (suc n) (all (x ∷ a) (y ∷ take m b)) ≡ take (suc n) (all (x ∷ a) (y ∷ b))
      by (below lt) one two three =
          ap (take (suc n)) (at_below x y a (take m b) lt (rising_first rank m (suc (rank y.key)) b rb.1)) ∙ ap (λ (l : Map). x ∷ l) one ∙ ap (take (suc n)) (sym (at_below x y a b lt rb.1))
      by (equal e) one two three =
          ap (take (suc n)) (at_equal x y a (take m b) e (rising_first rank m (suc (rank y.key)) b rb.1)) ∙ ap (λ (l : Map). row_of x.key (joined x.counts y.counts) ∷ l) two
          ∙ ap (take (suc n)) (sym (at_equal x y a b e rb.1))
      by (above gt) one two three =
          ap (take (suc n)) (at_above x y a (take m b) gt (rising_first rank m (suc (rank y.key)) b rb.1)) ∙ ap (λ (l : Map). y ∷ l) three ∙ ap (take (suc n)) (sym (at_above x y a b gt rb.1))

  -- ---- what the others come to

  sum_parts : (m : ℕ) (rows : Map) → joined (sum (take m rows)) (sum (drop m rows)) ≡ sum rows
  sum_parts zero [] = sums.nothing
  sum_parts zero (row ∷ rows) = none_before row.counts (sum rows)
  sum_parts (suc m) [] = sums.nothing
  sum_parts (suc m) (row ∷ rows) = sym (sums.grouped row.counts (sum (take m rows)) (sum (drop m rows))) ∙ ap (joined row.counts) (sum_parts m rows)

  sum_all : (a b : Map) → sum (all a b) ≡ joined (sum a) (sum b)
  sum_all a [] = sym (sum_none rank joined none sums a)
  sum_all a (row ∷ b) =
      sum_all (counting row.key row.counts a) b ∙ ap (λ (t : C). joined t (sum b)) (sum_more rank joined none sums row.key row.counts a)
      ∙ none_between (sum a) row.counts (sum b)

  others_kept : (n m : ℕ) → n ≤ m → (la lb : ℕ) (a b : Map) → AreRisingFrom rank la a → AreRisingFrom rank lb b
      → joined (sum (drop n (all a (take m b)))) (sum (drop m b)) ≡ sum (drop n (all a b))
  others_kept zero m le la lb a b ra rb =
      ap (λ (t : C). joined t (sum (drop m b))) (sum_all a (take m b)) ∙ sym (sums.grouped (sum a) (sum (take m b)) (sum (drop m b)))
      ∙ ap (joined (sum a)) (sum_parts m b) ∙ sym (sum_all a b)
  others_kept (suc n) zero le la lb a b ra rb = absurd (omega (arith, le))
  others_kept (suc n) (suc m) le la lb a [] ra rb = sum_none rank joined none sums (drop (suc n) a)
  others_kept (suc n) (suc m) le la lb [] (y ∷ b) ra rb =
      let next : n ≤ m = omega (arith, le) in
      let first = rising_first rank m (suc (rank y.key)) b rb.1 in
      ap (λ (l : Map). joined (sum (drop (suc n) l)) (sum (drop m b))) (stays y [] (take m b) first)
      ∙ others_kept n m next 0 (suc (rank y.key)) [] b tt rb.1 ∙ ap (λ (l : Map). sum (drop (suc n) l)) (sym (stays y [] b rb.1))
  others_kept (suc n) (suc m) le la lb (x ∷ a) (y ∷ b) ra rb =
      by (order (rank x.key) (rank y.key)) (others_kept n (suc m) (omega (arith, le)) (suc (rank x.key)) lb a (y ∷ b) ra.1 rb)
      (others_kept n m (omega (arith, le)) (suc (rank x.key)) (suc (rank y.key)) a b ra.1 rb.1) (others_kept n m (omega (arith, le)) la (suc (rank y.key)) (x ∷ a) b ra rb.1)
    where
      by : Order (rank x.key) (rank y.key) → joined (sum (drop n (all a (take (suc m) (y ∷ b))))) (sum (drop m b)) ≡ sum (drop n (all a (y ∷ b)))
          → joined (sum (drop n (all a (take m b)))) (sum (drop m b)) ≡ sum (drop n (all a b))
          → joined (sum (drop n (all (x ∷ a) (take m b)))) (sum (drop m b)) ≡ sum (drop n (all (x ∷ a) b))
          → joined (sum (drop (suc n) (all (x ∷ a) (y ∷ take m b)))) (sum (drop m b)) ≡ sum (drop (suc n) (all (x ∷ a) (y ∷ b)))
      by (below lt) one two three =
          ap (λ (l : Map). joined (sum (drop (suc n) l)) (sum (drop m b))) (at_below x y a (take m b) lt (rising_first rank m (suc (rank y.key)) b rb.1))
          ∙ one ∙ ap (λ (l : Map). sum (drop (suc n) l)) (sym (at_below x y a b lt rb.1))
      by (equal e) one two three =
          ap (λ (l : Map). joined (sum (drop (suc n) l)) (sum (drop m b))) (at_equal x y a (take m b) e (rising_first rank m (suc (rank y.key)) b rb.1))
          ∙ two ∙ ap (λ (l : Map). sum (drop (suc n) l)) (sym (at_equal x y a b e rb.1))
      by (above gt) one two three =
          ap (λ (l : Map). joined (sum (drop (suc n) l)) (sum (drop m b))) (at_above x y a (take m b) gt (rising_first rank m (suc (rank y.key)) b rb.1))
          ∙ three ∙ ap (λ (l : Map). sum (drop (suc n) l)) (sym (at_above x y a b gt rb.1))

  -- ---- two tables

  shown_both : (a b : Map) → AreRisingFrom rank 0 a → AreRisingFrom rank 0 b → together rank joined none (shown joined none 4096 a) (shown joined none 4096 b) ≡ shown joined none 4096 (all a b)
  shown_both a b ra rb =
      let le : 4096 ≤ 4096 = omega arith in
      ap (λ (table : Rows K C). with_others joined table (sum (drop 4096 b))) (shown_all rank joined none sums a (take 4096 b))
      ∙ (λ i. record { rows = kept 4096 4096 le 0 0 a b ra rb i; others = others_kept 4096 4096 le 0 0 a b ra rb i })

  -- the tables of two parts come together as that of both
  pub shown_together : (xs ys : Map) → together rank joined none (shown joined none 4096 (all [] xs)) (shown joined none 4096 (all [] ys)) ≡ shown joined none 4096 (all [] (xs ++ ys))
  shown_together xs ys = shown_both (all [] xs) (all [] ys) (rise_all [] xs tt) (rise_all [] ys tt) ∙ ap (shown joined none 4096) (on_top xs ys)
