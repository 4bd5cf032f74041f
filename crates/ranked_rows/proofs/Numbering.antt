-- Rows by their numbers.
use Rattle.std.proofs.Common.{◌≡◌, ◌∙◌, ap, sym, refl, subst, ℕ, zero, suc, ◌+◌, ◌-◌, ◌<◌, ◌≤◌, Bool, true, false, nat_lt, List, [], ◌∷◌, ◌++◌, length, take, drop, get_or, slice_set, arith, append_assoc, length-append}
use Rattle.std.proofs.lemmas.Bool.{cond-false, cond-true, lt-ltb, ltb-true, ltb-false, le-ltb}
use Rattle.std.proofs.lemmas.List.{drop_all, drop_at, get_or_append_left, get_or_default, length-set, take_all, take_at}
use Rattle.std.proofs.lemmas.List.Edits.{insert_end, length-insert}
use Rattle.std.proofs.lemmas.List.Elements.{All-head, All-push, All-tail, All-weaker, Contains-append_left, Contains-push}
use Rattle.std.proofs.lemmas.List.Sorted.{All-permutation, Contains-permutation, IsPermutation-insert, IsPermutation-sym, IsPermutation-trans}
use Rattle.std.proofs.Math.Seq.{get_or-append_seam, take-suc}
use Rattle.std.specs.List.{All, Contains, insert}
use Rattle.std.specs.List.Sorted.{IsPartitionPoint, IsPartitionedBy, IsPermutation}
use Rattle.ranked_rows.specs.Rows.{AreRising, AreRisingFrom, IsNumbering, IsPlaceOf, Rows, counted, counted_all, row_at, row_of, rows_by, stands_before, with_counts}
use Rattle.ranked_rows.specs.declared.key_count.KeyCount.{KeyCount}
use Rattle.ranked_rows.proofs.Lists.{drop_entered, take_entered}
use Rattle.ranked_rows.proofs.Places.{never_falls, rises, rising_at}
use Rattle.ranked_rows.proofs.Shown.{counted_append}

-- ---- numbers alone

pub perm_pushed : (order : List ℕ) (i n : ℕ) → IsPermutation (order ++ n ∷ []) (insert order i n)
perm_pushed order i n =
    subst (λ (l : List ℕ). IsPermutation l (insert order i n)) (insert_end order n)
    (IsPermutation-trans (insert order (length order) n) (n ∷ order) (insert order i n)
    (IsPermutation-sym (n ∷ order) (insert order (length order) n) (IsPermutation-insert order (length order) n))
    (IsPermutation-insert order i n))

-- ---- one row

module _ {K C : Type 0} where
  pub one_of : (rows : List (KeyCount K C)) (n : ℕ) (d : KeyCount K C) → n < length rows → row_at rows n ≡ get_or rows n d ∷ []
  one_of [] n d inside = absurd (omega (arith, inside))
  one_of (row ∷ rows) zero d inside = refl
  one_of (row ∷ rows) (suc n) d inside = one_of rows n d (omega (arith, inside))

  at_pushed : (rows : List (KeyCount K C)) (n : ℕ) (r : KeyCount K C) → n < length rows → row_at (rows ++ r ∷ []) n ≡ row_at rows n
  at_pushed [] n r inside = absurd (omega (arith, inside))
  at_pushed (row ∷ rows) zero r inside = refl
  at_pushed (row ∷ rows) (suc n) r inside = at_pushed rows n r (omega (arith, inside))

  pub at_end : (rows : List (KeyCount K C)) (r : KeyCount K C) → row_at (rows ++ r ∷ []) (length rows) ≡ r ∷ []
  at_end [] r = refl
  at_end (row ∷ rows) r = at_end rows r

  pub at_set : (rows : List (KeyCount K C)) (n : ℕ) (v : KeyCount K C) → n < length rows → row_at (slice_set rows n v) n ≡ v ∷ []
  at_set [] n v inside = absurd (omega (arith, inside))
  at_set (row ∷ rows) zero v inside = refl
  at_set (row ∷ rows) (suc n) v inside = at_set rows n v (omega (arith, inside))

  at_other : (rows : List (KeyCount K C)) (n m : ℕ) (v : KeyCount K C) → (n ≡ m → ⊥) → row_at (slice_set rows n v) m ≡ row_at rows m
  at_other [] zero m v apart = refl
  at_other [] (suc n) m v apart = refl
  at_other (row ∷ rows) zero zero v apart = absurd (apart refl)
  at_other (row ∷ rows) zero (suc m) v apart = refl
  at_other (row ∷ rows) (suc n) zero v apart = refl
  at_other (row ∷ rows) (suc n) (suc m) v apart = at_other rows n m v (λ same. apart (ap suc same))

  -- ---- many rows

  abbrev AreIn : List (KeyCount K C) → List ℕ → Type 0
  AreIn rows order = All (λ (n : ℕ). n < length rows) order

  first_in : (rows : List (KeyCount K C)) (n : ℕ) (ns : List ℕ) → AreIn rows (n ∷ ns) → n < length rows
  first_in rows n ns are = All-head (λ (k : ℕ). k < length rows) n ns are

  others_in : (rows : List (KeyCount K C)) (n : ℕ) (ns : List ℕ) → AreIn rows (n ∷ ns) → AreIn rows ns
  others_in rows n ns are = All-tail (λ (k : ℕ). k < length rows) n ns are

  pub by_pushed : (rows : List (KeyCount K C)) (r : KeyCount K C) (order : List ℕ) → AreIn rows order → rows_by (rows ++ r ∷ []) order ≡ rows_by rows order
  by_pushed rows r [] are = refl
  by_pushed rows r (n ∷ ns) are =
      ap (λ l. l ++ rows_by (rows ++ r ∷ []) ns) (at_pushed rows n r (first_in rows n ns are))
      ∙ ap (λ l. row_at rows n ++ l) (by_pushed rows r ns (others_in rows n ns are))

  put_behind : (l : List (KeyCount K C)) (x : KeyCount K C) (xs : List (KeyCount K C)) (i : ℕ) (r : KeyCount K C) → l ≡ x ∷ [] → l ++ insert xs i r ≡ insert (l ++ xs) (suc i) r
  put_behind l x xs i r one = ap (λ k. k ++ insert xs i r) one ∙ sym (ap (λ k. insert (k ++ xs) (suc i) r) one)

  pub by_inserted : (rows : List (KeyCount K C)) (order : List ℕ) (i n : ℕ) (r : KeyCount K C) → i ≤ length order → AreIn rows order → row_at rows n ≡ r ∷ [] → rows_by rows (insert order i n) ≡ insert (rows_by rows order) i r
  by_inserted rows order zero n r inside are one = ap (λ l. l ++ rows_by rows order) one
  by_inserted rows [] (suc i) n r inside are one = absurd (omega (arith, inside))
  by_inserted rows (m ∷ ms) (suc i) n r inside are one =
      ap (λ l. row_at rows m ++ l) (by_inserted rows ms i n r (omega (arith, inside)) (others_in rows m ms are) one)
      ∙ put_behind (row_at rows m) (get_or rows m r) (rows_by rows ms) i r (one_of rows m r (first_in rows m ms are))

  one_longer : (rows : List (KeyCount K C)) (n : ℕ) (xs : List (KeyCount K C)) → n < length rows → length (row_at rows n ++ xs) ≡ suc (length xs)
  one_longer [] n xs inside = absurd (omega (arith, inside))
  one_longer (row ∷ rows) zero xs inside = refl
  one_longer (row ∷ rows) (suc n) xs inside = one_longer rows n xs (omega (arith, inside))

  pub length_by : (rows : List (KeyCount K C)) (order : List ℕ) → AreIn rows order → length (rows_by rows order) ≡ length order
  length_by rows [] are = refl
  length_by rows (n ∷ ns) are = one_longer rows n (rows_by rows ns) (first_in rows n ns are) ∙ ap suc (length_by rows ns (others_in rows n ns are))

  pub get_by : (rows : List (KeyCount K C)) (order : List ℕ) (i e : ℕ) (d : KeyCount K C) → AreIn rows order → i < length order → get_or (rows_by rows order) i d ≡ get_or rows (get_or order i e) d
  get_by rows [] i e d are inside = absurd (omega (arith, inside))
  get_by rows (n ∷ ns) zero e d are inside = ap (λ l. get_or (l ++ rows_by rows ns) 0 d) (one_of rows n d (first_in rows n ns are))
  get_by rows (n ∷ ns) (suc i) e d are inside =
      ap (λ l. get_or (l ++ rows_by rows ns) (suc i) d) (one_of rows n d (first_in rows n ns are))
      ∙ get_by rows ns i e d (others_in rows n ns are) (omega (arith, inside))

  pub by_more : (rows : List (KeyCount K C)) (ms : List ℕ) (n : ℕ) (x : KeyCount K C) → row_at rows n ≡ x ∷ [] → rows_by rows (ms ++ n ∷ []) ≡ rows_by rows ms ++ x ∷ []
  by_more rows [] n x one = ap (λ l. l ++ []) one
  by_more rows (m ∷ ms) n x one = ap (λ l. row_at rows m ++ l) (by_more rows ms n x one) ∙ sym (append_assoc (row_at rows m) (rows_by rows ms) (x ∷ []))

  pub by_kept : (rows : List (KeyCount K C)) (n : ℕ) (v : KeyCount K C) (order : List ℕ) → All (λ (m : ℕ). n ≡ m → ⊥) order → rows_by (slice_set rows n v) order ≡ rows_by rows order
  by_kept rows n v [] apart = refl
  by_kept rows n v (m ∷ ms) apart =
      ap (λ l. l ++ rows_by (slice_set rows n v) ms) (at_other rows n m v (All-head (λ (m : ℕ). n ≡ m → ⊥) m ms apart))
      ∙ ap (λ l. row_at rows m ++ l) (by_kept rows n v ms (All-tail (λ (m : ℕ). n ≡ m → ⊥) m ms apart))

  -- ---- numbers

  pub numbers_pushed : (rows : List (KeyCount K C)) (order : List ℕ) (i : ℕ) (r : KeyCount K C) → i ≤ length order → IsNumbering rows order → IsNumbering (rows ++ r ∷ []) (insert order i (length rows))
  numbers_pushed rows order i r inside is =
      let new = length rows in
      let more = rows ++ r ∷ [] in
      let long : length more ≡ new + 1 = length-append rows (r ∷ []) in
      let are : AreIn more order = All-weaker (λ (n : ℕ). n < new) (λ (n : ℕ). n < length more) (λ n lt. omega (arith, lt, long)) order is.inside in
      record {
        inside = All-permutation (λ (n : ℕ). n < length more) (order ++ new ∷ []) (insert order i new) (perm_pushed order i new) (All-push (λ (n : ℕ). n < length more) order new are (omega (arith, long)));
        whole = λ n lt. Contains-permutation (order ++ new ∷ []) (insert order i new) n (perm_pushed order i new) (among rows order n (omega (arith, lt, long)) is);
        many = length-insert order i new inside ∙ ap (λ (n : ℕ). n + 1) is.many ∙ sym long;
      }
    where
      among : (rows : List (KeyCount K C)) (order : List ℕ) (n : ℕ) → n ≤ length rows → IsNumbering rows order → Contains (order ++ length rows ∷ []) n
      among rows order n le is = by (nat_lt n (length rows)) refl
        where
          by : (b : Bool) → nat_lt n (length rows) ≡ b → Contains (order ++ length rows ∷ []) n
          by true e = Contains-append_left order (length rows ∷ []) n (is.whole n (ltb-true n (length rows) e))
          by false e =
              let same : length rows ≡ n = omega (arith, le, ltb-false n (length rows) e) in
              subst (λ (m : ℕ). Contains (order ++ length rows ∷ []) m) same (Contains-push order (length rows))

  pub numbers_taken : (rows : List (KeyCount K C)) (ms : List ℕ) (i n : ℕ) (v : KeyCount K C) → i ≤ length ms → IsNumbering rows (ms ++ n ∷ []) → IsNumbering (slice_set rows n v) (insert ms i n)
  numbers_taken rows ms i n v inside is =
      let long : length (slice_set rows n v) ≡ length rows = length-set rows n v in
      record {
        inside = All-permutation (λ (m : ℕ). m < length (slice_set rows n v)) (ms ++ n ∷ []) (insert ms i n) (perm_pushed ms i n) (All-weaker (λ (m : ℕ). m < length rows) (λ (m : ℕ). m < length (slice_set rows n v)) (λ m lt. omega (arith, lt, long)) (ms ++ n ∷ []) is.inside);
        whole = λ m lt. Contains-permutation (ms ++ n ∷ []) (insert ms i n) m (perm_pushed ms i n) (is.whole m (omega (arith, lt, long)));
        many = length-insert ms i n inside ∙ sym (length-append ms (n ∷ [])) ∙ is.many ∙ sym long;
      }

  pub numbers_set : (rows : List (KeyCount K C)) (order : List ℕ) (n : ℕ) (v : KeyCount K C) → IsNumbering rows order → IsNumbering (slice_set rows n v) order
  numbers_set rows order n v is =
      let long : length (slice_set rows n v) ≡ length rows = length-set rows n v in
      record {
        inside = All-weaker (λ (m : ℕ). m < length rows) (λ (m : ℕ). m < length (slice_set rows n v)) (λ m lt. omega (arith, lt, long)) order is.inside;
        whole = λ m lt. is.whole m (omega (arith, lt, long));
        many = is.many ∙ sym long;
      }

  -- numbers but the last
  pub front_in : (rows : List (KeyCount K C)) (ms : List ℕ) (n : ℕ) → IsNumbering rows (ms ++ n ∷ []) → All (λ (m : ℕ). m < length rows) ms
  front_in rows ms n is = λ k e lt. omega (arith, is.inside k e (omega (arith, lt, length-append ms (n ∷ []))), get_or_append_left ms (n ∷ []) e k lt)

  pub last_in : (rows : List (KeyCount K C)) (ms : List ℕ) (n : ℕ) → IsNumbering rows (ms ++ n ∷ []) → n < length rows
  last_in rows ms n is = omega (arith, is.inside (length ms) n (omega (arith, length-append ms (n ∷ []))), get_or-append_seam ms n [] n)

  pub none_numbers : (rows : List (KeyCount K C)) (order : List ℕ) → rows ≡ [] → order ≡ [] → IsNumbering rows order
  none_numbers [] [] none empty = record {
    inside = λ k d lt. absurd (omega (arith, lt));
    whole = λ n lt. absurd (omega (arith, lt));
    many = refl;
  }
  none_numbers [] (n ∷ ns) none empty = absurd cc
  none_numbers (row ∷ rows) order none empty = absurd cc

  -- a row more, of the next number
  pub by_appended : (rows : List (KeyCount K C)) (order : List ℕ) (i : ℕ) (r : KeyCount K C) → i ≤ length order → IsNumbering rows order → rows_by (rows ++ r ∷ []) (insert order i (length rows)) ≡ insert (rows_by rows order) i r
  by_appended rows order i r inside is =
      let more = rows ++ r ∷ [] in
      let long : length more ≡ length rows + 1 = length-append rows (r ∷ []) in
      let are : AreIn more order = All-weaker (λ (n : ℕ). n < length rows) (λ (n : ℕ). n < length more) (λ n lt. omega (arith, lt, long)) order is.inside in
      by_inserted more order i (length rows) r inside are (at_end rows r) ∙ ap (λ l. insert l i r) (by_pushed rows r order is.inside)

  -- the same of a table that took it
  pub appended : (rows more : List (KeyCount K C)) (order new : List ℕ) (i n : ℕ) (r : KeyCount K C) → more ≡ rows ++ r ∷ [] → new ≡ insert order i n → n ≡ length rows → i ≤ length order → IsNumbering rows order
      → (rows_by more new ≡ insert (rows_by rows order) i r) × IsNumbering more new
  appended rows more order new i n r pushed put is inside numbers =
      let inserted : new ≡ insert order i (length rows) = put ∙ ap (λ (k : ℕ). insert order i k) is in (
        ap (λ (l : List (KeyCount K C)). rows_by l new) pushed ∙ ap (λ (l : List ℕ). rows_by (rows ++ r ∷ []) l) inserted ∙ by_appended rows order i r inside numbers,
        subst (λ (l : List (KeyCount K C)). IsNumbering l new) (sym pushed) (subst (λ (l : List ℕ). IsNumbering (rows ++ r ∷ []) l) (sym inserted) (numbers_pushed rows order i r inside numbers)),
      )

-- ---- ranks

module _ {K C : Type 0} (rank : K → ℕ) where
  abbrev rank_by : List (KeyCount K C) → ℕ → KeyCount K C → ℕ
  rank_by rows n d = rank (get_or rows n d).key

  -- no number's row has a lesser rank than the ranks begin with
  least_by : (rows : List (KeyCount K C)) (order : List ℕ) (least k e : ℕ) (d : KeyCount K C) → AreRisingFrom rank least (rows_by rows order) → All (λ (n : ℕ). n < length rows) order → k < length order → least ≤ rank_by rows (get_or order k e) d
  least_by rows order least k e d rising are inside =
      omega (arith, rising_at rank least (rows_by rows order) rising k d (omega (arith, inside, length_by rows order are)), ap (λ (r : KeyCount K C). rank r.key) (get_by rows order k e d are inside))

  pub apart_behind : (rows : List (KeyCount K C)) (order : List ℕ) (least n : ℕ) (d : KeyCount K C) → AreRisingFrom rank least (rows_by rows order) → All (λ (m : ℕ). m < length rows) order → rank_by rows n d < least → All (λ (m : ℕ). n ≡ m → ⊥) order
  apart_behind rows order least n d rising are below = λ k e inside same. omega (arith, below, least_by rows order least k e d rising are inside, ap (λ (m : ℕ). rank_by rows m d) same)

  pub apart_before : (rows : List (KeyCount K C)) (ms : List ℕ) (n : ℕ) (d : KeyCount K C) → AreRising rank (rows_by rows (ms ++ n ∷ [])) → All (λ (m : ℕ). m < length rows) (ms ++ n ∷ []) → n < length rows → All (λ (m : ℕ). n ≡ m → ⊥) ms
  apart_before rows ms n d rising are inside_n = λ k e inside same.
      let order = ms ++ n ∷ [] in
      let long : length order ≡ length ms + 1 = length-append ms (n ∷ []) in
      let many = length_by rows order are in
      let less = rises rank (rows_by rows order) rising k (length ms) d inside (omega (arith, many, long)) in
      let mine = get_by rows order k e d are (omega (arith, inside, long)) ∙ ap (λ (m : ℕ). get_or rows m d) (get_or_append_left ms (n ∷ []) e k inside ∙ sym same) in
      let last = get_by rows order (length ms) e d are (omega (arith, long)) ∙ ap (λ (m : ℕ). get_or rows m d) (get_or-append_seam ms n [] e) in
      omega (arith, less, ap (λ (r : KeyCount K C). rank r.key) mine, ap (λ (r : KeyCount K C). rank r.key) last)

  -- a row in the memory of the last
  pub by_taken : (rows : List (KeyCount K C)) (ms : List ℕ) (i n : ℕ) (r : KeyCount K C) → i ≤ length ms → AreRising rank (rows_by rows (ms ++ n ∷ [])) → IsNumbering rows (ms ++ n ∷ []) → n < length rows → rows_by (slice_set rows n r) (insert ms i n) ≡ insert (rows_by rows ms) i r
  by_taken rows ms i n r inside rising is inside_n =
      let new = slice_set rows n r in
      let long : length new ≡ length rows = length-set rows n r in
      let are = front_in rows ms n is in
      by_inserted new ms i n r inside (All-weaker (λ (m : ℕ). m < length rows) (λ (m : ℕ). m < length new) (λ m lt. omega (arith, lt, long)) ms are) (at_set rows n r inside_n)
      ∙ ap (λ (l : List (KeyCount K C)). insert l i r) (by_kept rows n r ms (apart_before rows ms n r rising is.inside inside_n))

  -- ---- the last number goes, and comes to another place

  -- the last of the numbers of so many rows and one more, and the place to which it comes
  pub record TakesLast (most : ℕ) (rows : List (KeyCount K C)) (order ms : List ℕ) (i m n : ℕ) : Type 0 where
    pub parts : order ≡ ms ++ m ∷ []
    pub same : m ≡ n
    pub numbers : IsNumbering rows order
    pub full : length rows ≡ suc most
    pub inside : i < length order

  pub takes_last : (most : ℕ) {rows : List (KeyCount K C)} {order ms : List ℕ} {i m n : ℕ} → order ≡ ms ++ m ∷ [] → m ≡ n → IsNumbering rows order → length rows ≡ suc most → i < length order → TakesLast most rows order ms i m n
  takes_last most parts same numbers full inside = record { parts = parts; same = same; numbers = numbers; full = full; inside = inside }

  module _ {most : ℕ} {rows : List (KeyCount K C)} {order ms : List ℕ} {i m n : ℕ} (takes : TakesLast most rows order ms i m n) (r : KeyCount K C) where
    is_last : order ≡ ms ++ n ∷ []
    is_last = takes.parts ∙ ap (λ (k : ℕ). ms ++ k ∷ []) takes.same

    own : IsNumbering rows (ms ++ n ∷ [])
    own = subst (λ (l : List ℕ). IsNumbering rows l) is_last takes.numbers

    pub front_long : length ms ≡ most
    front_long = omega (arith, length-append ms (n ∷ []), own.many, takes.full)

    low : i ≤ length ms
    low = omega (arith, takes.inside, takes.numbers.many, takes.full, front_long)

    inserted : (new : List ℕ) → new ≡ insert ms i m → new ≡ insert ms i n
    inserted new put = put ∙ ap (λ (k : ℕ). insert ms i k) takes.same

    -- the front of the rows, and the last of them
    ends : (x : KeyCount K C) → x ≡ get_or rows n x → rows_by rows order ≡ rows_by rows ms ++ x ∷ []
    ends x at = ap (λ (l : List ℕ). rows_by rows l) is_last ∙ by_more rows ms n x (one_of rows n x (last_in rows ms n own) ∙ ap (λ (y : KeyCount K C). y ∷ []) (sym at))

    many : length (rows_by rows ms) ≡ most
    many = length_by rows ms (front_in rows ms n own) ∙ front_long

    within : (x : KeyCount K C) → i ≤ length (rows_by rows ms ++ x ∷ [])
    within x = omega (arith, low, front_long, many, length-append (rows_by rows ms) (x ∷ []))

    pub taken_shown : (new : List ℕ) → new ≡ insert ms i m → AreRising rank (rows_by rows order) → rows_by (slice_set rows n r) new ≡ take (suc most) (insert (rows_by rows order) i r)
    taken_shown new put rising =
        let x = get_or rows n r in
        let front = rows_by rows ms in
        ap (λ (l : List ℕ). rows_by (slice_set rows n r) l) (inserted new put)
        ∙ by_taken rows ms i n r low (subst (λ (l : List ℕ). AreRising rank (rows_by rows l)) is_last rising) own (last_in rows ms n own)
        ∙ sym (ap (λ (l : List (KeyCount K C)). take (suc most) (insert l i r)) (ends x (get_or_default rows n r x (last_in rows ms n own)))
        ∙ take_entered most (front ++ x ∷ []) i r (omega (arith, low, front_long)) (within x)
        ∙ ap (λ (l : List (KeyCount K C)). insert l i r) (take_at front (x ∷ []) most many))

    pub taken_rest : (x : KeyCount K C) → x ≡ get_or rows n x → drop (suc most) (insert (rows_by rows order) i r) ≡ x ∷ []
    taken_rest x at =
        let front = rows_by rows ms in
        ap (λ (l : List (KeyCount K C)). drop (suc most) (insert l i r)) (ends x at)
        ∙ drop_entered most (front ++ x ∷ []) i r (omega (arith, low, front_long)) (within x)
        ∙ drop_at front (x ∷ []) most many

    pub taken_numbers : (new : List ℕ) → new ≡ insert ms i m → IsNumbering (slice_set rows n r) new
    taken_numbers new put = subst (λ (l : List ℕ). IsNumbering (slice_set rows n r) l) (sym (inserted new put)) (numbers_taken rows ms i n r low own)

  -- ---- none

  pub none_rising : (rows : List (KeyCount K C)) (order : List ℕ) → order ≡ [] → AreRising rank (rows_by rows order)
  none_rising rows [] none = tt
  none_rising rows (n ∷ ns) none = absurd cc

  -- ---- places

  pub before_at : (rows : List (KeyCount K C)) (n least : ℕ) (d : KeyCount K C) → n < length rows → stands_before rank least (row_at rows n) ≡ nat_lt (rank_by rows n d) least
  before_at rows n least d inside = ap (stands_before rank least) (one_of rows n d inside)

  pub partitioned : (rows : List (KeyCount K C)) (order : List ℕ) (least : ℕ) → AreRising rank (rows_by rows order) → All (λ (n : ℕ). n < length rows) order → IsPartitionedBy (λ (n : ℕ). stands_before rank least (row_at rows n)) order
  partitioned [] order least rising are i j d le lt is = absurd (omega (arith, are j d lt))
  partitioned (row ∷ rows) order least rising are i j d le lt is =
      let all = row ∷ rows in
      let m = get_or order i d in
      let n = get_or order j d in
      let in_m : m < length all = are i d (omega (arith, le, lt)) in
      let in_n : n < length all = are j d lt in
      let many = length_by all order are in
      let fall = never_falls rank (rows_by all order) rising i j row le (omega (arith, lt, many)) in
      let low = ap (λ (r : KeyCount K C). rank r.key) (get_by all order i d row are (omega (arith, le, lt))) in
      let high = ap (λ (r : KeyCount K C). rank r.key) (get_by all order j d row are lt) in
      let less : rank_by all n row < least = ltb-true (rank_by all n row) least (sym (before_at all n least row in_n) ∙ is) in
      before_at all m least row in_m ∙ lt-ltb (rank_by all m row) least (omega (arith, fall, low, high, less))

  pub place_from : (rows : List (KeyCount K C)) (order : List ℕ) (least at : ℕ) → All (λ (n : ℕ). n < length rows) order → at ≤ length order
      → IsPartitionPoint (λ (n : ℕ). stands_before rank least (row_at rows n) ≡ true) (λ (n : ℕ). stands_before rank least (row_at rows n) ≡ false) order at
      → IsPlaceOf rank least (rows_by rows order) at
  place_from rows order least at are inside point =
      let many = length_by rows order are in
      record {
        inside = omega (arith, inside, many);
        before = λ k d lt.
            let n = get_or order k 0 in
            let within : k < length order = omega (arith, lt, inside) in
            let same = ap (λ (r : KeyCount K C). rank r.key) (get_by rows order k 0 d are within) in
            omega (arith, same, ltb-true (rank_by rows n d) least (sym (before_at rows n least d (are k 0 within)) ∙ point.0 k 0 (omega arith) lt));
        behind = λ k d le lt.
            let n = get_or order k 0 in
            let within : k < length order = omega (arith, lt, many) in
            let same = ap (λ (r : KeyCount K C). rank r.key) (get_by rows order k 0 d are within) in
            omega (arith, same, ltb-false (rank_by rows n d) least (sym (before_at rows n least d (are k 0 within)) ∙ point.1 k 0 le within));
      }

  -- where the last stands before a key, all do
  pub behind_all : (rows : List (KeyCount K C)) (order : List ℕ) (least : ℕ) → AreRising rank (rows_by rows order) → All (λ (n : ℕ). n < length rows) order
      → 0 < length order → stands_before rank least (row_at rows (get_or order (length order - 1) 0)) ≡ true → IsPlaceOf rank least (rows_by rows order) (length order)
  behind_all rows order least rising are some is =
      place_from rows order least (length order) are (omega arith) (
        (λ k d le lt. partitioned rows order least rising are k (length order - 1) d (omega (arith, lt)) (omega (arith, some)) (ap (λ (n : ℕ). stands_before rank least (row_at rows n)) (last_is d) ∙ is)),
        (λ k d le lt. absurd (omega (arith, le, lt))),
      )
    where
      last_is : (d : ℕ) → get_or order (length order - 1) d ≡ get_or order (length order - 1) 0
      last_is d = get_or_default order (length order - 1) d 0 (omega (arith, some))

  -- ---- more of a row

  module _ (joined : C → C → C) (key : K) (counts : C) where
    abbrev counting : List (KeyCount K C) → List (KeyCount K C)
    counting rows = with_counts rank joined key counts rows

    apart : (l : List (KeyCount K C)) (x : KeyCount K C) (xs : List (KeyCount K C)) (least : ℕ) → l ≡ x ∷ [] → AreRisingFrom rank least (l ++ xs) → AreRisingFrom rank (suc (rank x.key)) xs
    apart l x xs least one rising =
        let is : AreRisingFrom rank least (x ∷ xs) = subst (λ (k : List (KeyCount K C)). AreRisingFrom rank least (k ++ xs)) one rising in
        is.1

    here : (l : List (KeyCount K C)) (x : KeyCount K C) (xs : List (KeyCount K C)) → l ≡ x ∷ [] → rank x.key ≡ rank key → counting (l ++ xs) ≡ row_of x.key (joined x.counts counts) ∷ xs
    here l x xs one same =
        ap (λ (k : List (KeyCount K C)). counting (k ++ xs)) one
        ∙ cond-false _ _ _ (le-ltb (rank x.key) (rank key) (omega (arith, same)))
        ∙ cond-false _ _ _ (le-ltb (rank key) (rank x.key) (omega (arith, same)))

    behind : (l : List (KeyCount K C)) (x : KeyCount K C) (xs : List (KeyCount K C)) → l ≡ x ∷ [] → rank x.key < rank key → counting (l ++ xs) ≡ l ++ counting xs
    behind l x xs one less =
        ap (λ (k : List (KeyCount K C)). counting (k ++ xs)) one
        ∙ cond-true _ _ _ (lt-ltb (rank x.key) (rank key) less)
        ∙ sym (ap (λ (k : List (KeyCount K C)). k ++ counting xs) one)

    more_at : (rows : List (KeyCount K C)) (order : List ℕ) (n k least : ℕ) (d : KeyCount K C) → AreRisingFrom rank least (rows_by rows order) → All (λ (m : ℕ). m < length rows) order → n < length rows → k < length order → get_or order k n ≡ n → rank_by rows n d ≡ rank key
        → counting (rows_by rows order) ≡ rows_by (slice_set rows n (row_of (get_or rows n d).key (joined (get_or rows n d).counts counts))) order
    more_at rows [] n k least d rising are inside_n inside is same = absurd (omega (arith, inside))
    more_at rows (m ∷ ms) n zero least d rising are inside_n inside is same =
        let x = get_or rows n d in
        let v = row_of x.key (joined x.counts counts) in
        let one : row_at rows m ≡ x ∷ [] = ap (λ (j : ℕ). row_at rows j) is ∙ one_of rows n d inside_n in
        let rest = apart (row_at rows m) x (rows_by rows ms) least one rising in
        let others = by_kept rows n v ms (apart_behind rows ms (suc (rank x.key)) n d rest (All-tail (λ (j : ℕ). j < length rows) m ms are) (omega arith)) in
        here (row_at rows m) x (rows_by rows ms) one same
        ∙ ap (λ (l : List (KeyCount K C)). v ∷ l) (sym others)
        ∙ sym (ap (λ (l : List (KeyCount K C)). l ++ rows_by (slice_set rows n v) ms) (ap (λ (j : ℕ). row_at (slice_set rows n v) j) is ∙ at_set rows n v inside_n))
    more_at rows (m ∷ ms) n (suc k) least d rising are inside_n inside is same =
        let x = get_or rows n d in
        let y = get_or rows m d in
        let v = row_of x.key (joined x.counts counts) in
        let others = All-tail (λ (j : ℕ). j < length rows) m ms are in
        let one : row_at rows m ≡ y ∷ [] = one_of rows m d (All-head (λ (j : ℕ). j < length rows) m ms are) in
        let rest = apart (row_at rows m) y (rows_by rows ms) least one rising in
        let high : suc (rank y.key) ≤ rank x.key = omega (arith, least_by rows ms (suc (rank y.key)) k n d rest others (omega (arith, inside)), ap (λ (j : ℕ). rank_by rows j d) is) in
        behind (row_at rows m) y (rows_by rows ms) one (omega (arith, high, same))
        ∙ ap (λ (l : List (KeyCount K C)). row_at rows m ++ l) (more_at rows ms n k (suc (rank y.key)) d rest others inside_n (omega (arith, inside)) is same)
        ∙ ap (λ (l : List (KeyCount K C)). l ++ rows_by (slice_set rows n v) ms) (sym (at_other rows n m v (λ eq. omega (arith, high, ap (λ (j : ℕ). rank_by rows j d) eq))))

    pub more_by : (rows : List (KeyCount K C)) (order : List ℕ) (n : ℕ) (d : KeyCount K C) → AreRising rank (rows_by rows order) → IsNumbering rows order → n < length rows → rank_by rows n d ≡ rank key
        → counting (rows_by rows order) ≡ rows_by (slice_set rows n (row_of (get_or rows n d).key (joined (get_or rows n d).counts counts))) order
    more_by rows order n d rising is inside same =
        let at = is.whole n inside in
        more_at rows order n at.0 0 d rising is.inside inside at.1 at.2 same

    pub more_shown : (most : ℕ) (rows : List (KeyCount K C)) (order : List ℕ) (n : ℕ) (d : KeyCount K C) (new : List (KeyCount K C)) → AreRising rank (rows_by rows order) → IsNumbering rows order → length rows ≤ most → n < length rows → rank_by rows n d ≡ rank key
        → new ≡ slice_set rows n (row_of (get_or rows n d).key (joined (get_or rows n d).counts counts)) → rows_by new order ≡ take most (counting (rows_by rows order))
    more_shown most rows order n d new rising is few inside same more =
        let v = row_of (get_or rows n d).key (joined (get_or rows n d).counts counts) in
        let set = slice_set rows n v in
        let long : length (rows_by set order) ≤ most = omega (arith, few, is.many, length_by set order (numbers_set rows order n v is).inside) in
        ap (λ (l : List (KeyCount K C)). rows_by l order) more ∙ sym (ap (take most) (more_by rows order n d rising is inside same) ∙ take_all most (rows_by set order) long)

    pub more_rest : (most : ℕ) (rows : List (KeyCount K C)) (order : List ℕ) (n : ℕ) (d : KeyCount K C) → AreRising rank (rows_by rows order) → IsNumbering rows order → length rows ≤ most → n < length rows → rank_by rows n d ≡ rank key
        → drop most (counting (rows_by rows order)) ≡ []
    more_rest most rows order n d rising is few inside same =
        let v = row_of (get_or rows n d).key (joined (get_or rows n d).counts counts) in
        let set = slice_set rows n v in
        let long : length (rows_by set order) ≤ most = omega (arith, few, is.many, length_by set order (numbers_set rows order n v is).inside) in
        ap (drop most) (more_by rows order n d rising is inside same) ∙ drop_all most (rows_by set order) long

  -- ---- one number after another

  module _ (joined : C → C → C) (none : C) where
    abbrev told : Rows K C → List (KeyCount K C) → Rows K C
    told table rows = counted_all rank joined none table rows

    pub counted_next : (rows : List (KeyCount K C)) (order : List ℕ) (i n : ℕ) (row : KeyCount K C) (start now new : Rows K C) → i < length order → n ≡ get_or order i n → n < length rows → row ≡ get_or rows n row
        → now ≡ told start (rows_by rows (take i order)) → new ≡ counted rank joined none now row.key row.counts → new ≡ told start (rows_by rows (take (suc i) order))
    counted_next rows order i n row start now new inside is inside_n at so more =
        let before = take i order in
        let one : row_at rows n ≡ row ∷ [] = one_of rows n row inside_n ∙ ap (λ (x : KeyCount K C). x ∷ []) (sym at) in
        let next : take (suc i) order ≡ before ++ n ∷ [] = take-suc order i n inside ∙ ap (λ (m : ℕ). before ++ m ∷ []) (sym is) in
        more ∙ ap (λ (t : Rows K C). counted rank joined none t row.key row.counts) so
        ∙ sym (counted_append rank joined none start (rows_by rows before) (row ∷ []))
        ∙ ap (told start) (sym (by_more rows before n row one))
        ∙ ap (λ (l : List ℕ). told start (rows_by rows l)) (sym next)
