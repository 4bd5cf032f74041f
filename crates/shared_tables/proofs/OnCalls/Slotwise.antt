-- The live entries of a segment, slot by slot.
use Rattle.std.proofs.Common.{◌≡◌, ℕ, zero, suc, ◌+◌, ◌<◌, ◌≤◌, arith, List, [], ◌∷◌, ◌++◌, length, map, take, replicate, Option, Some, None, refl, sym, ap, ◌∙◌}
use Rattle.std.specs.List.{cons_option}
use Rattle.std.specs.Option.{option_to_list}
use Rattle.filter_db.specs.declared.entry.Entry.{Entry}
use Rattle.filter_db.specs.Rows.{Rows}
use Rattle.shared_tables.specs.declared.slots.Slot.{Slot}
use Rattle.shared_tables.specs.Listing.{live_row, live_rows}
use Rattle.shared_tables.specs.Pool.{Held, entry_at}
use Rattle.shared_tables.specs.Slots.{entry_in, no_slot}

-- one slot more
next_rows : (v a t : ℕ) (es : List (Option Held)) (i : ℕ) → i < length es → live_rows v a t (take i es) ++ option_to_list (live_row v a t (entry_at es i)) ≡ live_rows v a t (take (suc i) es)
next_rows v a t [] i lt = absurd (omega (arith, lt))
next_rows v a t (e ∷ es) zero lt = one (live_row v a t e)
  where
    one : (row : Option (List ℕ × Entry)) → option_to_list row ≡ cons_option row []
    one None = refl
    one (Some row) = refl
next_rows v a t (e ∷ es) (suc i) lt = out (live_row v a t e) (live_rows v a t (take i es)) (option_to_list (live_row v a t (entry_at es i))) ∙ ap (cons_option (live_row v a t e)) (next_rows v a t es i (omega (arith, lt)))
  where
    out : (o : Option (List ℕ × Entry)) (rs ss : Rows) → cons_option o rs ++ ss ≡ cons_option o (rs ++ ss)
    out None rs ss = refl
    out (Some r) rs ss = refl

pub rows_more : (v a t : ℕ) (es : List (Option Held)) (i : ℕ) → i < length es → live_rows v a t (take i es) ++ option_to_list (live_row v a t (entry_at es i)) ≡ live_rows v a t (take (i + 1) es)
rows_more v a t es i lt = let more : suc i ≡ i + 1 = omega arith in next_rows v a t es i lt ∙ ap (λ n. live_rows v a t (take n es)) more

-- those that aren't there yet have none
none_there : (v a t k : ℕ) → live_rows v a t (map entry_in (replicate k no_slot)) ≡ []
none_there v a t zero = refl
none_there v a t (suc k) = none_there v a t k

none_taken : (v a t k i : ℕ) → live_rows v a t (take i (map entry_in (replicate k no_slot))) ≡ []
none_taken v a t zero zero = refl
none_taken v a t zero (suc i) = refl
none_taken v a t (suc k) zero = refl
none_taken v a t (suc k) (suc i) = none_taken v a t k i

pub rows_all : (v a t k i : ℕ) (slots : List Slot) → length slots ≤ i → live_rows v a t (take i (map entry_in (slots ++ replicate k no_slot))) ≡ live_rows v a t (map entry_in (slots ++ replicate k no_slot))
rows_all v a t k i [] h = none_taken v a t k i ∙ sym (none_there v a t k)
rows_all v a t k zero (s ∷ slots) h = absurd (omega (arith, h))
rows_all v a t k (suc i) (s ∷ slots) h = ap (cons_option (live_row v a t (entry_in s))) (rows_all v a t k i slots (omega (arith, h)))

-- a slot that was made is one of all
pub made_in : (slots zs : List Slot) (i : ℕ) → i < length slots → i < length (map entry_in (slots ++ zs))
made_in [] zs i lt = absurd (omega (arith, lt))
made_in (s ∷ slots) zs zero lt = omega arith
made_in (s ∷ slots) zs (suc i) lt = omega (arith, made_in slots zs i (omega (arith, lt)))
