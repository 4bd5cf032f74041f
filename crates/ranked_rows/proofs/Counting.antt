-- How many rows count no more than so often.
use Rattle.std.proofs.Common.{◌≡◌, ◌∙◌, ap, sym, refl, ℕ, suc, ◌+◌, ◌-◌, ◌^◌, ◌<◌, ◌≤◌, Bool, true, false, cond, nat_lt, List, [], ◌∷◌, ◌++◌, length, take, get_or, arith}
use Rattle.std.proofs.lemmas.Bool.{ltb-false, ltb-true, lt-ltb, le-ltb}
use Rattle.std.proofs.Math.Seq.{take-suc}
use Rattle.std.proofs.lemmas.List.{get_or_default}
use Rattle.std.specs.List.{All}
use Rattle.ranked_rows.specs.Frequent.{IsRaised, most_of, up_to}
use Rattle.ranked_rows.specs.Rows.{IsNumbering, rows_by}
use Rattle.ranked_rows.specs.declared.key_count.KeyCount.{KeyCount}
use Rattle.ranked_rows.specs.declared.since.Since.{Since}
use Rattle.ranked_rows.proofs.Numbering.{by_more, get_by, length_by, one_of}

module _ {K C : Type 0} (times : C → ℕ) where
  pub up_to_more : (limit : ℕ) (xs : List (KeyCount K (Since C))) (x : KeyCount K (Since C)) → up_to times limit (xs ++ x ∷ []) ≡ up_to times limit xs + up_to times limit (x ∷ [])
  up_to_more limit [] x = omega arith
  up_to_more limit (y ∷ ys) x = by (nat_lt limit (most_of times y)) (up_to_more limit ys x)
    where
      by : (b : Bool) → up_to times limit (ys ++ x ∷ []) ≡ up_to times limit ys + up_to times limit (x ∷ [])
          → cond b (up_to times limit (ys ++ x ∷ [])) (suc (up_to times limit (ys ++ x ∷ []))) ≡ cond b (up_to times limit ys) (suc (up_to times limit ys)) + up_to times limit (x ∷ [])
      by true is = is
      by false is = omega (arith, is)

  pub up_to_low : (limit : ℕ) (rows : List (KeyCount K (Since C))) → up_to times limit rows ≤ length rows
  up_to_low limit [] = omega arith
  up_to_low limit (row ∷ rows) = by (nat_lt limit (most_of times row)) (up_to_low limit rows)
    where
      by : (b : Bool) → up_to times limit rows ≤ length rows → cond b (up_to times limit rows) (suc (up_to times limit rows)) ≤ suc (length rows)
      by true le = omega (arith, le)
      by false le = omega (arith, le)

  pub up_to_rises : (low high : ℕ) (rows : List (KeyCount K (Since C))) → low ≤ high → up_to times low rows ≤ up_to times high rows
  up_to_rises low high [] le = omega arith
  up_to_rises low high (row ∷ rows) le = by (nat_lt low (most_of times row)) (nat_lt high (most_of times row)) refl refl (up_to_rises low high rows le)
    where
      by : (p q : Bool) → nat_lt low (most_of times row) ≡ p → nat_lt high (most_of times row) ≡ q → up_to times low rows ≤ up_to times high rows
          → cond p (up_to times low rows) (suc (up_to times low rows)) ≤ cond q (up_to times high rows) (suc (up_to times high rows))
      by true true e f is = is
      by true false e f is = omega (arith, is)
      by false true e f is = absurd (omega (arith, le, ltb-false low (most_of times row) e, ltb-true high (most_of times row) f))
      by false false e f is = omega (arith, is)

  pub up_to_all : (rows : List (KeyCount K (Since C))) → up_to times (2 ^ 64 - 1) rows ≡ length rows
  up_to_all [] = refl
  up_to_all (row ∷ rows) = by (nat_lt (2 ^ 64 - 1) (most_of times row)) refl (up_to_all rows)
    where
      by : (b : Bool) → nat_lt (2 ^ 64 - 1) (most_of times row) ≡ b → up_to times (2 ^ 64 - 1) rows ≡ length rows → cond b (up_to times (2 ^ 64 - 1) rows) (suc (up_to times (2 ^ 64 - 1) rows)) ≡ suc (length rows)
      by true e is = absurd (omega (arith, ltb-true (2 ^ 64 - 1) (most_of times row) e))
      by false e is = ap suc is

  -- a row more is looked at
  pub up_to_next : (limit : ℕ) (rows : List (KeyCount K (Since C))) (order : List ℕ) (i n : ℕ) (row : KeyCount K (Since C)) → i < length order → n ≡ get_or order i n → n < length rows → row ≡ get_or rows n row
      → up_to times limit (rows_by rows (take (suc i) order)) ≡ up_to times limit (rows_by rows (take i order)) + up_to times limit (row ∷ [])
  up_to_next limit rows order i n row inside is inside_n at =
      let before = take i order in
      ap (λ (l : List ℕ). up_to times limit (rows_by rows l)) (take-suc order i n inside ∙ ap (λ (m : ℕ). before ++ m ∷ []) (sym is))
      ∙ ap (up_to times limit) (by_more rows before n row (one_of rows n row inside_n ∙ ap (λ (r : KeyCount K (Since C)). r ∷ []) (sym at)))
      ∙ up_to_more limit (rows_by rows before) row

  pub one_up_to : (limit : ℕ) (row : KeyCount K (Since C)) → most_of times row ≤ limit → up_to times limit (row ∷ []) ≡ 1
  one_up_to limit row le = ap (λ (b : Bool). cond b 0 1) (le-ltb limit (most_of times row) le)

  pub none_up_to : (limit : ℕ) (row : KeyCount K (Since C)) → limit < most_of times row → up_to times limit (row ∷ []) ≡ 0
  none_up_to limit row lt = ap (λ (b : Bool). cond b 0 1) (lt-ltb limit (most_of times row) lt)

  pub found_at : (limit : ℕ) (rows : List (KeyCount K (Since C))) (order : List ℕ) (i n : ℕ) (row d : KeyCount K (Since C)) → All (λ (m : ℕ). m < length rows) order → i < length order → n ≡ get_or order i n → n < length rows → row ≡ get_or rows n row
      → most_of times row ≤ limit → most_of times (get_or (rows_by rows order) i d) ≤ limit
  found_at limit rows order i n row d are inside is inside_n at le =
      omega (arith, le, ap (most_of times) (get_by rows order i n d are inside ∙ ap (λ (m : ℕ). get_or rows m d) (sym is) ∙ get_or_default rows n d row inside_n ∙ sym at))

  -- all count no more than any number of 64 bits
  pub all_up_to : (rows : List (KeyCount K (Since C))) (order : List ℕ) → IsNumbering rows order → length rows ≡ 4096 → up_to times (2 ^ 64 - 1) (rows_by rows order) ≡ 4096
  all_up_to rows order numbers full = up_to_all (rows_by rows order) ∙ length_by rows order numbers.inside ∙ numbers.many ∙ full

  pub not_raised : (rows : List (KeyCount K (Since C))) (floor : ℕ) → IsRaised times rows floor floor
  not_raised rows floor = record { up = omega arith; few = λ x low lt. absurd (omega (arith, low, lt)) }
