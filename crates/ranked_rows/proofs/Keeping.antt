-- What a table keeps of all that came, as more comes.
use Rattle.std.proofs.Common.{◌≡◌, ◌∙◌, ap, sym, refl, subst, ℕ, zero, suc, ◌+◌, ◌-◌, ◌*◌, ◌^◌, min, ◌<◌, ◌≤◌, ◌⊎◌, inl, inr, Bool, true, false, cond, nat_lt, List, [], ◌∷◌, ◌++◌, length, map, get_or, arith, append_assoc, Option, None, Some}
use Rattle.std.specs.Prelude.{◌==◌}
use Rattle.std.proofs.Math.Nat.{suc-mul, zero-mul}
use Rattle.std.proofs.lemmas.Bool.{cases_lt, eq-eqb, eqb-true, ltb-false, ltb-true, ne_eqb}
use Rattle.std.proofs.lemmas.List.{length-map}
use Rattle.std.proofs.lemmas.List.Edits.{length-remove}
use Rattle.std.proofs.lemmas.Nat.{mul-le}
use Rattle.std.specs.List.{remove}
use Rattle.ranked_rows.specs.Frequent.{AreLow, AreSince, Frequent, HasNone, IsRaised, IsSince, Keeps, Puts, all_times, bare, beyond, come_to, most_of, of_rank, since, since_joined, up_to, whole, with_gone}
use Rattle.ranked_rows.specs.Rows.{AreRising, AreRisingFrom, all_counts, row_of, total, with_counts}
use Rattle.ranked_rows.specs.declared.key_count.KeyCount.{KeyCount}
use Rattle.ranked_rows.specs.declared.since.Since.{Since}
use Rattle.ranked_rows.proofs.Places.{rise_less, rising_more}
use Rattle.ranked_rows.proofs.Shown.{AreSums, sum_more, sum_none}

-- how often keys came, by what is counted
pub record AreTimes {C : Type 0} (joined : C → C → C) (none : C) (times : C → ℕ) : Type 0 where
  pub summed : (a b : C) → times (joined a b) ≤ min (2 ^ 64 - 1) (times a + times b)
  pub never : times none ≡ 0

pub nothing_behind : {X : Type 0} (xs : List X) → xs ++ [] ≡ xs
nothing_behind [] = refl
nothing_behind (x ∷ xs) = ap (λ l. x ∷ l) (nothing_behind xs)

-- ---- rows of any counts

module _ {K X : Type 0} (rank : K → ℕ) where
  pub none_above : (n least : ℕ) (rows : List (KeyCount K X)) → n < least → AreRisingFrom rank least rows → HasNone rank n rows
  none_above n least [] lt is = tt
  none_above n least (row ∷ rows) lt is = ((λ same. omega (arith, lt, is.0, same)), none_above n (suc (rank row.key)) rows (omega (arith, lt, is.0)) is.1)

  none_left : (n : ℕ) (rows : List (KeyCount K X)) (at : ℕ) → HasNone rank n rows → HasNone rank n (remove rows at)
  none_left n [] zero none = tt
  none_left n [] (suc at) none = tt
  none_left n (row ∷ rows) zero none = none.1
  none_left n (row ∷ rows) (suc at) none = (none.0, none_left n rows at none.1)

  none_removed : (n : ℕ) (rows : List (KeyCount K X)) (at : ℕ) (d : KeyCount K X) → at < length rows → HasNone rank n (remove rows at) → (rank (get_or rows at d).key ≡ n → ⊥) → HasNone rank n rows
  none_removed n [] at d there none apart = tt
  none_removed n (row ∷ rows) zero d there none apart = (apart, none)
  none_removed n (row ∷ rows) (suc at) d there none apart = (none.0, none_removed n rows at d (omega (arith, there)) none.1 apart)

  pub rising_removed : (least : ℕ) (rows : List (KeyCount K X)) (at : ℕ) → AreRisingFrom rank least rows → AreRisingFrom rank least (remove rows at)
  rising_removed least [] zero is = tt
  rising_removed least [] (suc at) is = tt
  rising_removed least (row ∷ rows) zero is = rise_less rank least (suc (rank row.key)) rows (omega (arith, is.0)) is.1
  rising_removed least (row ∷ rows) (suc at) is = (is.0, rising_removed (suc (rank row.key)) rows at is.1)

  module _ (joined : X → X → X) (key : K) (counts : X) where
    abbrev more : List (KeyCount K X) → List (KeyCount K X)
    more rows = with_counts rank joined key counts rows

    none_more : (n : ℕ) (rows : List (KeyCount K X)) → HasNone rank n (more rows) → HasNone rank n rows × (rank key ≡ n → ⊥)
    none_more n [] none = (tt, none.0)
    none_more n (row ∷ rows) none = by (nat_lt (rank row.key) (rank key)) (nat_lt (rank key) (rank row.key)) refl refl (none_more n rows) none
      where
        by : (p q : Bool) → nat_lt (rank row.key) (rank key) ≡ p → nat_lt (rank key) (rank row.key) ≡ q → (HasNone rank n (more rows) → HasNone rank n rows × (rank key ≡ n → ⊥))
            → HasNone rank n (cond p (row ∷ more rows) (cond q (row_of key counts ∷ row ∷ rows) (row_of row.key (joined row.counts counts) ∷ rows))) → HasNone rank n (row ∷ rows) × (rank key ≡ n → ⊥)
        by true q e f others none = let rest = others none.1 in ((none.0, rest.0), rest.1)
        by false true e f others none = (none.1, none.0)
        by false false e f others none =
            let same : rank row.key ≡ rank key = omega (arith, ltb-false (rank row.key) (rank key) e, ltb-false (rank key) (rank row.key) f) in
            ((none.0, none.1), λ is. none.0 (same ∙ is))

    length_more : (rows : List (KeyCount K X)) → length rows ≤ length (more rows)
    length_more [] = omega arith
    length_more (row ∷ rows) = by (nat_lt (rank row.key) (rank key)) (nat_lt (rank key) (rank row.key)) (length_more rows)
      where
        by : (p q : Bool) → length rows ≤ length (more rows) → suc (length rows) ≤ length (cond p (row ∷ more rows) (cond q (row_of key counts ∷ row ∷ rows) (row_of row.key (joined row.counts counts) ∷ rows)))
        by true q le = omega (arith, le)
        by false true le = omega arith
        by false false le = omega arith

    length_new : (rows : List (KeyCount K X)) → HasNone rank (rank key) rows → length (more rows) ≡ suc (length rows)
    length_new [] none = refl
    length_new (row ∷ rows) none = by (nat_lt (rank row.key) (rank key)) (nat_lt (rank key) (rank row.key)) refl refl (length_new rows none.1)
      where
        by : (p q : Bool) → nat_lt (rank row.key) (rank key) ≡ p → nat_lt (rank key) (rank row.key) ≡ q → length (more rows) ≡ suc (length rows)
            → length (cond p (row ∷ more rows) (cond q (row_of key counts ∷ row ∷ rows) (row_of row.key (joined row.counts counts) ∷ rows))) ≡ suc (suc (length rows))
        by true q e f is = ap suc is
        by false true e f is = refl
        by false false e f is = absurd (none.0 (omega (arith, ltb-false (rank row.key) (rank key) e, ltb-false (rank key) (rank row.key) f)))

-- ---- what came

module _ {K C : Type 0} (rank : K → ℕ) (joined : C → C → C) (none : C) (times : C → ℕ) (sums : AreSums joined none) (are : AreTimes joined none times) where
  abbrev Came : Type 0
  Came = List (KeyCount K C)

  abbrev Later : Type 0
  Later = List (KeyCount K (Since C))

  abbrev of : ℕ → Came → Came
  of n xs = of_rank rank n xs

  abbrev sum : Came → C
  sum xs = total joined none xs

  -- rows with more of a key, which may have come so often before
  abbrev later : KeyCount K C → ℕ → Later → Later
  later x before rows = with_counts rank (since_joined joined) x.key (since x.counts before) rows

  of_both : (n : ℕ) (xs ys : Came) → of n (xs ++ ys) ≡ of n xs ++ of n ys
  of_both n [] ys = refl
  of_both n (x ∷ xs) ys = by (rank x.key == n) (of_both n xs ys)
    where
      by : (b : Bool) → of n (xs ++ ys) ≡ of n xs ++ of n ys → cond b (x ∷ of n (xs ++ ys)) (of n (xs ++ ys)) ≡ cond b (x ∷ of n xs) (of n xs) ++ of n ys
      by true more = ap (λ (l : Came). x ∷ l) more
      by false more = more

  of_same : (n : ℕ) (came : Came) (x : KeyCount K C) → rank x.key ≡ n → of n (came ++ x ∷ []) ≡ of n came ++ x ∷ []
  of_same n came x is = of_both n came (x ∷ []) ∙ ap (λ (b : Bool). of n came ++ cond b (x ∷ []) []) (eq-eqb (rank x.key) n is)

  of_other : (n : ℕ) (came : Came) (x : KeyCount K C) → (rank x.key ≡ n → ⊥) → of n (came ++ x ∷ []) ≡ of n came
  of_other n came x apart =
      of_both n came (x ∷ []) ∙ ap (λ (b : Bool). of n came ++ cond b (x ∷ []) []) (ne_eqb (rank x.key) n apart) ∙ nothing_behind (of n came)

  sum_both : (xs ys : Came) → sum (xs ++ ys) ≡ joined (sum xs) (sum ys)
  sum_both [] ys = sym (sums.turned none (sum ys) ∙ sum_none rank joined none sums ys)
  sum_both (x ∷ xs) ys = ap (joined x.counts) (sum_both xs ys) ∙ sums.grouped x.counts (sum xs) (sum ys)

  come_more : (c : C) (xs : Came) (x : KeyCount K C) → come_to joined c (xs ++ x ∷ []) ≡ joined (come_to joined c xs) x.counts
  come_more c [] x = refl
  come_more c (y ∷ ys) x = come_more (joined c y.counts) ys x

  come_sum : (c : C) (xs : Came) → joined (come_to joined c xs) none ≡ joined c (sum xs)
  come_sum c [] = refl
  come_sum c (x ∷ xs) = come_sum (joined c x.counts) xs ∙ sym (sums.grouped c x.counts (sum xs))

  all_times_more : (xs : Came) (x : KeyCount K C) → all_times times (xs ++ x ∷ []) ≡ all_times times xs + times x.counts
  all_times_more [] x = omega arith
  all_times_more (y ∷ ys) x = omega (arith, all_times_more ys x)

  all_more : (start came : Came) (x : KeyCount K C) → all_counts rank joined start (came ++ x ∷ []) ≡ with_counts rank joined x.key x.counts (all_counts rank joined start came)
  all_more start [] x = refl
  all_more start (y ∷ ys) x = all_more (with_counts rank joined y.key y.counts start) ys x

  -- ---- what a row tells of it

  abbrev Tells : Came → KeyCount K (Since C) → Type 0
  Tells came row = IsSince rank joined none times came row

  abbrev Tell : Came → Later → Type 0
  Tell came rows = AreSince rank joined none times came rows

  most_came : (came : Came) (row : KeyCount K (Since C)) → Tells came row → times (sum (of (rank row.key) came)) ≤ most_of times row
  most_came came row is =
      let own : sum (is.first ∷ is.behind) ≡ joined row.counts.counts none = sym (come_sum is.first.counts is.behind) ∙ ap (λ (c : C). joined c none) (sym is.counts) in
      let all : sum (of (rank row.key) came) ≡ joined (sum is.before) (joined row.counts.counts none) =
      ap (total joined none) is.parts ∙ sum_both is.before (is.first ∷ is.behind) ∙ ap (joined (sum is.before)) own in
      omega (arith, ap times all, are.summed (sum is.before) (joined row.counts.counts none), are.summed row.counts.counts none, are.never, is.few)

  tells_other : (came : Came) (x : KeyCount K C) (row : KeyCount K (Since C)) → (rank x.key ≡ rank row.key → ⊥) → Tells came row → Tells (came ++ x ∷ []) row
  tells_other came x row apart is = record {
    before = is.before;
    first = is.first;
    behind = is.behind;
    parts = of_other (rank row.key) came x apart ∙ is.parts;
    counts = is.counts;
    few = is.few;
  }

  tells_same : (came : Came) (x : KeyCount K C) (before : ℕ) (row : KeyCount K (Since C)) → rank row.key ≡ rank x.key → Tells came row → Tells (came ++ x ∷ []) (row_of row.key (since_joined joined row.counts (since x.counts before)))
  tells_same came x before row same is = record {
    before = is.before;
    first = is.first;
    behind = is.behind ++ x ∷ [];
    parts = of_same (rank row.key) came x (sym same) ∙ ap (λ (l : Came). l ++ x ∷ []) is.parts ∙ append_assoc is.before (is.first ∷ is.behind) (x ∷ []);
    counts = ap (λ (c : C). joined c x.counts) is.counts ∙ sym (come_more is.first.counts is.behind x);
    few = is.few;
  }

  tells_new : (came : Came) (x : KeyCount K C) (before : ℕ) → times (sum (of (rank x.key) came)) ≤ before → Tells (came ++ x ∷ []) (row_of x.key (since x.counts before))
  tells_new came x before few = record {
    before = of (rank x.key) came;
    first = x;
    behind = [];
    parts = of_same (rank x.key) came x refl;
    counts = refl;
    few = few;
  }

  others_tell : (came : Came) (x : KeyCount K C) (rows : Later) → HasNone rank (rank x.key) rows → Tell came rows → Tell (came ++ x ∷ []) rows
  others_tell came x [] apart is = tt
  others_tell came x (row ∷ rows) apart is = (tells_other came x row (λ same. apart.0 (sym same)) is.0, others_tell came x rows apart.1 is.1)

  all_tell : (least : ℕ) (came : Came) (x : KeyCount K C) (before : ℕ) (rows : Later) → AreRisingFrom rank least rows → Tell came rows
      → (HasNone rank (rank x.key) rows → times (sum (of (rank x.key) came)) ≤ before) → Tell (came ++ x ∷ []) (later x before rows)
  all_tell least came x before [] rising is few = (tells_new came x before (few tt), tt)
  all_tell least came x before (row ∷ rows) rising is few =
      by (nat_lt (rank row.key) (rank x.key)) (nat_lt (rank x.key) (rank row.key)) refl refl (all_tell (suc (rank row.key)) came x before rows rising.1 is.1)
    where
      by : (p q : Bool) → nat_lt (rank row.key) (rank x.key) ≡ p → nat_lt (rank x.key) (rank row.key) ≡ q
          → ((HasNone rank (rank x.key) rows → times (sum (of (rank x.key) came)) ≤ before) → Tell (came ++ x ∷ []) (later x before rows))
          → Tell (came ++ x ∷ []) (cond p (row ∷ later x before rows) (cond q (row_of x.key (since x.counts before) ∷ row ∷ rows) (row_of row.key (since_joined joined row.counts (since x.counts before)) ∷ rows)))
      by true q e f more =
          let lt : rank row.key < rank x.key = ltb-true (rank row.key) (rank x.key) e in
          (tells_other came x row (λ same. omega (arith, lt, same)) is.0, more (λ none. few ((λ same. omega (arith, lt, same)), none)))
      by false true e f more =
          let lt : rank x.key < rank row.key = ltb-true (rank x.key) (rank row.key) f in
          let apart : HasNone rank (rank x.key) rows = none_above rank (rank x.key) (suc (rank row.key)) rows (omega (arith, lt)) rising.1 in
          (tells_new came x before (few ((λ same. omega (arith, lt, same)), apart)), (tells_other came x row (λ same. omega (arith, lt, same)) is.0, others_tell came x rows apart is.1))
      by false false e f more =
          let same : rank row.key ≡ rank x.key = omega (arith, ltb-false (rank row.key) (rank x.key) e, ltb-false (rank x.key) (rank row.key) f) in
          let apart : HasNone rank (rank x.key) rows = none_above rank (rank x.key) (suc (rank row.key)) rows (omega (arith, same)) rising.1 in
          (tells_same came x before row same is.0, others_tell came x rows apart is.1)

  tell_left : (came : Came) (rows : Later) (at : ℕ) → Tell came rows → Tell came (remove rows at)
  tell_left came [] zero is = tt
  tell_left came [] (suc at) is = tt
  tell_left came (row ∷ rows) zero is = is.1
  tell_left came (row ∷ rows) (suc at) is = (is.0, tell_left came rows at is.1)

  tells_at : (came : Came) (rows : Later) (at : ℕ) (d : KeyCount K (Since C)) → at < length rows → Tell came rows → Tells came (get_or rows at d)
  tells_at came [] at d there is = absurd (omega (arith, there))
  tells_at came (row ∷ rows) zero d there is = is.0
  tells_at came (row ∷ rows) (suc at) d there is = tells_at came rows at d (omega (arith, there)) is.1

  -- ---- how often a key without a row came

  abbrev IsFloor : Came → Later → ℕ → Type 0
  IsFloor came rows floor = (n : ℕ) → HasNone rank n rows → times (sum (of n came)) ≤ floor

  floor_more : (came : Came) (x : KeyCount K C) (before floor : ℕ) (rows : Later) → IsFloor came rows floor → IsFloor (came ++ x ∷ []) (later x before rows) floor
  floor_more came x before floor rows is = λ n apart.
      let no = none_more rank (since_joined joined) x.key (since x.counts before) n rows apart in
      omega (arith, ap (λ (l : Came). times (sum l)) (of_other n came x no.1), is n no.0)

  floor_left : (came : Came) (floor risen : ℕ) (rows : Later) (at : ℕ) (d : KeyCount K (Since C)) → at < length rows → Tell came rows → most_of times (get_or rows at d) ≤ risen → floor ≤ risen → IsFloor came rows floor → IsFloor came (remove rows at) risen
  floor_left came floor risen rows at d there tell low up is = λ n apart. by n apart (rank (get_or rows at d).key == n) refl
    where
      by : (n : ℕ) → HasNone rank n (remove rows at) → (b : Bool) → (rank (get_or rows at d).key == n) ≡ b → times (sum (of n came)) ≤ risen
      by n apart true e =
          omega (arith, most_came came (get_or rows at d) (tells_at came rows at d there tell), ap (λ (m : ℕ). times (sum (of m came))) (eqb-true (rank (get_or rows at d).key) n e), low)
      by n apart false e =
          omega (arith, is n (none_removed rank n rows at d there apart (λ same. let test = eq-eqb (rank (get_or rows at d).key) n same in absurd cc)), up)

  low_up : (floor risen : ℕ) (rows : Later) → floor ≤ risen → AreLow floor rows → AreLow risen rows
  low_up floor risen [] up is = tt
  low_up floor risen (row ∷ rows) up is = (omega (arith, up, is.0), low_up floor risen rows up is.1)

  low_more : (floor : ℕ) (x : KeyCount K C) (rows : Later) → AreLow floor rows → AreLow floor (later x floor rows)
  low_more floor x [] is = (omega arith, tt)
  low_more floor x (row ∷ rows) is = by (nat_lt (rank row.key) (rank x.key)) (nat_lt (rank x.key) (rank row.key)) (low_more floor x rows is.1)
    where
      by : (p q : Bool) → AreLow floor (later x floor rows)
          → AreLow floor (cond p (row ∷ later x floor rows) (cond q (row_of x.key (since x.counts floor) ∷ row ∷ rows) (row_of row.key (since_joined joined row.counts (since x.counts floor)) ∷ rows)))
      by true q more = (is.0, more)
      by false true more = (omega arith, is)
      by false false more = is

  low_left : (floor risen : ℕ) (rows : Later) (at : ℕ) → floor ≤ risen → AreLow floor rows → AreLow risen (remove rows at)
  low_left floor risen [] zero up is = tt
  low_left floor risen [] (suc at) up is = tt
  low_left floor risen (row ∷ rows) zero up is = low_up floor risen rows up is.1
  low_left floor risen (row ∷ rows) (suc at) up is = (omega (arith, up, is.0), low_left floor risen rows at up is.1)

  -- ---- what rows count beyond it

  beyond_more : (floor : ℕ) (x : KeyCount K C) (rows : Later) → beyond times floor (later x floor rows) ≤ beyond times floor rows + times x.counts
  beyond_more floor x [] = omega arith
  beyond_more floor x (row ∷ rows) = by (nat_lt (rank row.key) (rank x.key)) (nat_lt (rank x.key) (rank row.key)) (beyond_more floor x rows)
    where
      by : (p q : Bool) → beyond times floor (later x floor rows) ≤ beyond times floor rows + times x.counts
          → beyond times floor (cond p (row ∷ later x floor rows) (cond q (row_of x.key (since x.counts floor) ∷ row ∷ rows) (row_of row.key (since_joined joined row.counts (since x.counts floor)) ∷ rows)))
          ≤ beyond times floor (row ∷ rows) + times x.counts
      by true q le = omega (arith, le)
      by false true le = omega arith
      by false false le = omega (arith, are.summed row.counts.counts x.counts)

  beyond_left : (floor : ℕ) (rows : Later) (at : ℕ) → beyond times floor (remove rows at) ≤ beyond times floor rows
  beyond_left floor [] zero = omega arith
  beyond_left floor [] (suc at) = omega arith
  beyond_left floor (row ∷ rows) zero = omega arith
  beyond_left floor (row ∷ rows) (suc at) = omega (arith, beyond_left floor rows at)

  -- how many rows count more than so often
  abbrev over : ℕ → Later → ℕ
  over limit [] = 0
  over limit (row ∷ rows) = cond (nat_lt limit (most_of times row)) (suc (over limit rows)) (over limit rows)

  counted_both : (limit : ℕ) (rows : Later) → up_to times limit rows + over limit rows ≡ length rows
  counted_both limit [] = omega arith
  counted_both limit (row ∷ rows) = by (nat_lt limit (most_of times row)) (counted_both limit rows)
    where
      by : (b : Bool) → up_to times limit rows + over limit rows ≡ length rows
          → cond b (up_to times limit rows) (suc (up_to times limit rows)) + cond b (suc (over limit rows)) (over limit rows) ≡ suc (length rows)
      by true is = omega (arith, is)
      by false is = omega (arith, is)

  beyond_raised : (floor by_so limit : ℕ) (rows : Later) → suc limit ≡ floor + by_so → beyond times (floor + by_so) rows + over limit rows * by_so ≤ beyond times floor rows
  beyond_raised floor by_so limit [] is = omega (arith, zero-mul by_so)
  beyond_raised floor by_so limit (row ∷ rows) is = by (nat_lt limit (most_of times row)) refl (beyond_raised floor by_so limit rows is)
    where
      by : (b : Bool) → nat_lt limit (most_of times row) ≡ b → beyond times (floor + by_so) rows + over limit rows * by_so ≤ beyond times floor rows
          → beyond times (floor + by_so) (row ∷ rows) + cond b (suc (over limit rows)) (over limit rows) * by_so ≤ beyond times floor (row ∷ rows)
      by true e le = omega (arith, le, is, ltb-true limit (most_of times row) e, suc-mul (over limit rows) by_so)
      by false e le = omega (arith, le, is, ltb-false limit (most_of times row) e)

  bound_raised : (floor risen : ℕ) (rows : Later) → length rows ≡ 4096 → IsRaised times rows floor risen → 4000 * risen + beyond times risen rows ≤ 4000 * floor + beyond times floor rows
  bound_raised floor risen rows full is = by (cases_lt floor risen)
    where
      by : (floor < risen) ⊎ (risen ≤ floor) → 4000 * risen + beyond times risen rows ≤ 4000 * floor + beyond times floor rows
      by (inr le) =
          let same : risen ≡ floor = omega (arith, le, is.up) in
          omega (arith, same, ap (λ (f : ℕ). beyond times f rows) same)
      by (inl lt) =
          let so = risen - floor in
          let limit = risen - 1 in
          let to : floor + so ≡ risen = omega (arith, lt) in
          let some : 4000 ≤ over limit rows = omega (arith, full, counted_both limit rows, is.few limit (omega (arith, lt)) (omega (arith, lt))) in
          omega (arith, to, beyond_raised floor so limit rows (omega (arith, lt)), ap (λ (f : ℕ). beyond times f rows) to, mul-le 4000 so (over limit rows) so some (omega arith))

  -- ---- all together

  swap : (a b c : C) → joined (joined a b) c ≡ joined (joined a c) b
  swap a b c = sym (sums.grouped a b c) ∙ ap (joined a) (sums.turned b c) ∙ sums.grouped a c b

  bare_more : (x : KeyCount K C) (before : ℕ) (rows : Later) → map bare (later x before rows) ≡ with_counts rank joined x.key x.counts (map bare rows)
  bare_more x before [] = refl
  bare_more x before (row ∷ rows) = by (nat_lt (rank row.key) (rank x.key)) (nat_lt (rank x.key) (rank row.key)) (bare_more x before rows)
    where
      by : (p q : Bool) → map bare (later x before rows) ≡ with_counts rank joined x.key x.counts (map bare rows)
          → map bare (cond p (row ∷ later x before rows) (cond q (row_of x.key (since x.counts before) ∷ row ∷ rows) (row_of row.key (since_joined joined row.counts (since x.counts before)) ∷ rows)))
          ≡ cond p (bare row ∷ with_counts rank joined x.key x.counts (map bare rows)) (cond q (row_of x.key x.counts ∷ bare row ∷ map bare rows) (row_of row.key (joined row.counts.counts x.counts) ∷ map bare rows))
      by true q is = ap (λ (l : Came). bare row ∷ l) is
      by false true is = refl
      by false false is = refl

  sum_kept : (came : Came) (x : KeyCount K C) (before : ℕ) (rows : Later) (others : C) → joined (sum (map bare rows)) others ≡ sum came → joined (sum (map bare (later x before rows))) others ≡ sum (came ++ x ∷ [])
  sum_kept came x before rows others is =
      ap (λ (l : Came). joined (sum l) others) (bare_more x before rows)
      ∙ ap (λ (c : C). joined c others) (sum_more rank joined none sums x.key x.counts (map bare rows))
      ∙ swap (sum (map bare rows)) (joined x.counts none) others
      ∙ ap (λ (c : C). joined c (joined x.counts none)) is
      ∙ sym (sum_both came (x ∷ []))

  sum_apart : (rows : Later) (at : ℕ) (d : KeyCount K (Since C)) → at < length rows → sum (map bare rows) ≡ joined (sum (map bare (remove rows at))) (joined (get_or rows at d).counts.counts none)
  sum_apart [] at d there = absurd (omega (arith, there))
  sum_apart (row ∷ rows) zero d there =
      sums.turned row.counts.counts (sum (map bare rows)) ∙ sym (sums.whole (sum (map bare rows)) row.counts.counts) ∙ sym (sums.grouped (sum (map bare rows)) row.counts.counts none)
  sum_apart (row ∷ rows) (suc at) d there =
      ap (joined row.counts.counts) (sum_apart rows at d (omega (arith, there)))
      ∙ sums.grouped row.counts.counts (sum (map bare (remove rows at))) (joined (get_or rows at d).counts.counts none)

  sum_left : (rows : Later) (at : ℕ) (d : KeyCount K (Since C)) (others gone : C) → at < length rows → gone ≡ (get_or rows at d).counts.counts → joined (sum (map bare (remove rows at))) (joined others gone) ≡ joined (sum (map bare rows)) others
  sum_left rows at d others gone there is =
      let left = sum (map bare (remove rows at)) in
      let went = (get_or rows at d).counts.counts in
      sym (ap (λ (c : C). joined c others) (sum_apart rows at d there)
      ∙ sym (sums.grouped left (joined went none) others)
      ∙ ap (joined left) (sums.turned (joined went none) others ∙ sums.grouped others went none ∙ sums.whole others went ∙ ap (joined others) (sym is)))

  -- ---- while each key has its row

  whole_more : (x : KeyCount K C) (rows : Came) → map whole (with_counts rank joined x.key x.counts rows) ≡ later x 0 (map whole rows)
  whole_more x [] = refl
  whole_more x (row ∷ rows) = by (nat_lt (rank row.key) (rank x.key)) (nat_lt (rank x.key) (rank row.key)) (whole_more x rows)
    where
      by : (p q : Bool) → map whole (with_counts rank joined x.key x.counts rows) ≡ later x 0 (map whole rows)
          → map whole (cond p (row ∷ with_counts rank joined x.key x.counts rows) (cond q (row_of x.key x.counts ∷ row ∷ rows) (row_of row.key (joined row.counts x.counts) ∷ rows)))
          ≡ cond p (whole row ∷ later x 0 (map whole rows)) (cond q (row_of x.key (since x.counts 0) ∷ whole row ∷ map whole rows) (row_of row.key (since (joined row.counts x.counts) 0) ∷ map whole rows))
      by true q is = ap (λ (l : Later). whole row ∷ l) is
      by false true is = refl
      by false false is = refl

  -- ---- a table

  -- all but how many rows there are
  record Holds (came : Came) (t : Frequent K C) : Type 0 where
    pub rising : AreRising rank t.rows
    pub tell : Tell came t.rows
    pub low : AreLow t.floor t.rows
    pub seldom : IsFloor came t.rows t.floor
    pub bound : 4000 * t.floor + beyond times t.floor t.rows ≤ all_times times came
    pub sum : joined (total joined none (map bare t.rows)) t.others ≡ total joined none came

  abbrev with_more : KeyCount K C → Frequent K C → Frequent K C
  with_more x t = record { rows = later x t.floor t.rows; others = t.others; floor = t.floor }

  holds_more : (came : Came) (x : KeyCount K C) (t : Frequent K C) → Holds came t → Holds (came ++ x ∷ []) (with_more x t)
  holds_more came x t is = record {
    rising = rising_more rank (since_joined joined) 0 x.key (since x.counts t.floor) t.rows (omega arith) is.rising;
    tell = all_tell 0 came x t.floor t.rows is.rising is.tell (is.seldom (rank x.key));
    low = low_more t.floor x t.rows is.low;
    seldom = floor_more came x t.floor t.floor t.rows is.seldom;
    bound = omega (arith, is.bound, beyond_more t.floor x t.rows, all_times_more came x);
    sum = sum_kept came x t.floor t.rows t.others is.sum;
  }

  abbrev left : (at risen : ℕ) (gone : C) → Frequent K C → Frequent K C
  left at risen gone t = record { rows = remove t.rows at; others = joined t.others gone; floor = risen }

  holds_left : (came : Came) (at risen : ℕ) (gone : C) (d : KeyCount K (Since C)) (t : Frequent K C) → at < length t.rows → length t.rows ≡ 4096 → IsRaised times t.rows t.floor risen
      → most_of times (get_or t.rows at d) ≤ risen → gone ≡ (get_or t.rows at d).counts.counts → Holds came t → Holds came (left at risen gone t)
  holds_left came at risen gone d t there full raised low counts is = record {
    rising = rising_removed rank 0 t.rows at is.rising;
    tell = tell_left came t.rows at is.tell;
    low = low_left t.floor risen t.rows at raised.up is.low;
    seldom = floor_left came t.floor risen t.rows at d there is.tell low raised.up is.seldom;
    bound = omega (arith, is.bound, bound_raised t.floor risen t.rows full raised, beyond_left risen t.rows at);
    sum = sum_left t.rows at d t.others gone there counts ∙ is.sum;
  }

  holds : (came : Came) (t : Frequent K C) → Keeps rank joined none times came t → Holds came t
  holds came t is = record { rising = is.rising; tell = is.since; low = is.low; seldom = is.seldom; bound = is.bound; sum = is.sum }

  -- what came of each key
  abbrev each : Came → Came
  each came = all_counts rank joined [] came

  each_more : (came : Came) (x : KeyCount K C) → length (each came) ≤ length (each (came ++ x ∷ []))
  each_more came x = omega (arith, ap length (all_more [] came x), length_more rank joined x.key x.counts (each came))

  -- where each has its row from the begin, one more has it, too
  each_whole : (came : Came) (x : KeyCount K C) (floor : ℕ) (rows : Later) → rows ≡ map whole (each came) → floor ≡ 0 → later x floor rows ≡ map whole (each (came ++ x ∷ []))
  each_whole came x floor rows are_whole low =
      ap (λ (f : ℕ). later x f rows) low ∙ ap (λ (l : Later). later x 0 l) are_whole ∙ sym (whole_more x (each came)) ∙ ap (λ (l : Came). map whole l) (sym (all_more [] came x))

  keeps_more : (came : Came) (x : KeyCount K C) (t : Frequent K C) → length (later x t.floor t.rows) ≤ 4096 → Keeps rank joined none times came t → Keeps rank joined none times (came ++ x ∷ []) (with_more x t)
  keeps_more came x t short is =
      let h = holds_more came x t (holds came t is) in
      record {
        rising = h.rising;
        since = h.tell;
        low = h.low;
        seldom = h.seldom;
        bound = h.bound;
        sum = h.sum;
        few = few;
        many = λ more. by more (cases_lt 4096 (length (each came)));
      }
    where
      few : length (each (came ++ x ∷ [])) ≤ 4096 → (later x t.floor t.rows ≡ map whole (each (came ++ x ∷ []))) × (t.floor ≡ 0) × (t.others ≡ none)
      few le =
          let old = is.few (omega (arith, le, each_more came x)) in
          (each_whole came x t.floor t.rows old.0 old.1, old.1, old.2)

      by : 4096 < length (each (came ++ x ∷ [])) → (4096 < length (each came)) ⊎ (length (each came) ≤ 4096) → length (later x t.floor t.rows) ≡ 4096
      by more (inl lt) = omega (arith, short, is.many lt, length_more rank (since_joined joined) x.key (since x.counts t.floor) t.rows)
      by more (inr le) =
          let old = is.few le in
          absurd (omega (arith, short, more, ap length (each_whole came x t.floor t.rows old.0 old.1), length-map (each (came ++ x ∷ [])) (λ (row : KeyCount K C). whole row)))

  keeps_new : (came : Came) (at risen : ℕ) (gone : C) (d : KeyCount K (Since C)) (x : KeyCount K C) (t : Frequent K C) → at < length t.rows → length t.rows ≡ 4096 → IsRaised times t.rows t.floor risen
      → most_of times (get_or t.rows at d) ≤ risen → gone ≡ (get_or t.rows at d).counts.counts → HasNone rank (rank x.key) t.rows → Keeps rank joined none times came t
      → Keeps rank joined none times (came ++ x ∷ []) (with_more x (left at risen gone t))
  keeps_new came at risen gone d x t there full raised low counts apart is =
      let h = holds_more came x (left at risen gone t) (holds_left came at risen gone d t there full raised low counts (holds came t is)) in
      record {
        rising = h.rising;
        since = h.tell;
        low = h.low;
        seldom = h.seldom;
        bound = h.bound;
        sum = h.sum;
        few = λ le.
            let old = is.few (omega (arith, le, each_more came x)) in
            absurd (omega (arith, le, full, length_new rank (since_joined joined) x.key (since x.counts 0) t.rows apart, ap length (each_whole came x 0 t.rows old.0 refl), length-map (each (came ++ x ∷ [])) (λ (row : KeyCount K C). whole row)));
        many = λ more. omega (arith, full, length-remove t.rows at there, length_new rank (since_joined joined) x.key (since x.counts risen) (remove t.rows at) (none_left rank (rank x.key) t.rows at apart));
      }

  -- as the code does
  pub keeps_put : (came : Came) (x : KeyCount K C) (t new : Frequent K C) (gone : Option C) → Puts rank joined times t.rows t.floor x new.rows new.floor gone → new.others ≡ with_gone joined t.others gone
      → Keeps rank joined none times came t → Keeps rank joined none times (came ++ x ∷ []) new
  keeps_put came x t new None puts others is =
      let to : new ≡ with_more x t = λ i. record { rows = puts.0 i; others = others i; floor = puts.1 i } in
      subst (λ (u : Frequent K C). Keeps rank joined none times (came ++ x ∷ []) u) (sym to) (keeps_more came x t (omega (arith, puts.2, ap length puts.0)) is)
  keeps_put came x t new (Some gone) puts others is =
      let to : new ≡ with_more x (left puts.at new.floor gone t) = λ i. record { rows = puts.rows i; others = others i; floor = new.floor } in
      let d : KeyCount K (Since C) = row_of x.key (since x.counts 0) in
      subst (λ (u : Frequent K C). Keeps rank joined none times (came ++ x ∷ []) u) (sym to)
      (keeps_new came puts.at new.floor gone d x t puts.there puts.full puts.raised (puts.low d) (puts.counts d) puts.none is)

  pub puts_rising : (x : KeyCount K C) (rows new : Later) (floor risen : ℕ) (gone : Option C) → AreRising rank rows → Puts rank joined times rows floor x new risen gone → AreRising rank new
  puts_rising x rows new floor risen None is puts =
      subst (λ (l : Later). AreRising rank l) (sym puts.0) (rising_more rank (since_joined joined) 0 x.key (since x.counts floor) rows (omega arith) is)
  puts_rising x rows new floor risen (Some gone) is puts =
      subst (λ (l : Later). AreRising rank l) (sym puts.rows) (rising_more rank (since_joined joined) 0 x.key (since x.counts risen) (remove rows puts.at) (omega arith) (rising_removed rank 0 rows puts.at is))

  -- nothing came yet
  pub keeps_none : Keeps rank joined none times [] (record { rows = []; others = none; floor = 0 })
  keeps_none = record {
    rising = tt;
    since = tt;
    low = tt;
    seldom = λ n apart. omega (arith, are.never);
    bound = omega arith;
    sum = sums.nothing;
    few = λ le. (refl, refl, refl);
    many = λ more. absurd (omega (arith, more));
  }
