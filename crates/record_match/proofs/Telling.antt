-- A table is of the delays that were told to it.
use Rattle.std.proofs.Common.{◌≡◌, ◌≢◌, ◌<◌, ℕ, ◌-◌, ◌^◌, ◌==◌, min, max, Bool, true, false}
use Rattle.std.proofs.Common.{List, [], ◌∷◌, length, length-set, get_or, replicate, refl, sym, ap, ◌∙◌, subst, arith}
use Rattle.std.proofs.lemmas.Bool.{eqb-true, eqb-false}
use Rattle.std.proofs.lemmas.List.{get_or-replicate, length-replicate, get_or-set_other, get_or-set_same}
use Rattle.std.specs.List.{FoldsTo}
use Rattle.record_match.specs.Settled.{Fact, Both, ReceivedAlone, SentAlone}
use Rattle.record_match.specs.Delays.{Delays, IsOf, count_in, delays_behind, delays_with, no_delays, row_of, rows_with, step_of, with_delay, with_one}
use Rattle.record_match.specs.TablesLaws.{ItIsOfItsDelays}

-- rows of no delay
all_rows : (n d : ℕ) → length (replicate n d) ≡ n
all_rows n d = length-replicate n d

no_row : (n i d : ℕ) → i < n → get_or (replicate n d) i d ≡ d
no_row n i d h = get_or-replicate n i d d h

-- a table of none
none_told : (within : ℕ) → IsOf within (no_delays within) []
none_told within = record {
  step = refl;
  size = all_rows 4194304 0;
  rows = λ i h. no_row 4194304 i 0 h;
  least = refl;
  greatest = refl;
  count = omega arith;
}

-- one more delay
one_told : (within : ℕ) (t : Delays) (ds : List ℕ) (d : ℕ) → IsOf within t ds → IsOf within (with_one d t) (d ∷ ds)
one_told within t ds d is = record {
  step = is.step;
  size = length-set t.rows (row_of t.step d) _ ∙ is.size;
  rows = λ i h. ap (λ (s : ℕ). get_or (rows_with (row_of s d) t.rows) i 0) is.step ∙ at i h (row_of step d == i) refl;
  least = ap (λ (n : ℕ). min n d) is.least;
  greatest = ap (λ (n : ℕ). max n d) is.greatest;
  count = omega (arith, is.count);
}
  where
    step : ℕ
    step = step_of within

    at : (i : ℕ) → i < 4194304 → (q : Bool) → (row_of step d == i) ≡ q
        → get_or (rows_with (row_of step d) t.rows) i 0 ≡ min (count_in step i (d ∷ ds)) (2 ^ 64 - 1)
    at i h true e =
        let same : row_of step d ≡ i = eqb-true (row_of step d) i e in
        rw e (ap (λ (k : ℕ). get_or (rows_with k t.rows) i 0) same
        ∙ get_or-set_same t.rows i _ 0 (omega (arith, h, is.size))
        ∙ omega (arith, is.rows i h))
    at i h false e =
        let other : i ≢ row_of step d = λ same. eqb-false (row_of step d) i e (sym same) in
        rw e (get_or-set_other t.rows (row_of step d) i _ 0 other ∙ omega (arith, is.rows i h))

told_of : (within : ℕ) (t : Delays) (ds : List ℕ) (fact : Fact) → IsOf within t ds → IsOf within (delays_with fact t) (with_delay fact ds)
told_of within t ds (Both moment number r) is = one_told within t ds (r.moment - moment) is
told_of within t ds (ReceivedAlone number r) is = is
told_of within t ds (SentAlone number r) is = is

told_all : (within : ℕ) (facts : List Fact) (old new : Delays) (ds : List ℕ) → IsOf within old ds
    → FoldsTo (λ old fact new. new ≡ delays_with fact old) old facts new → IsOf within new (delays_behind ds facts)
told_all within [] old new ds is h = subst (λ (t : Delays). IsOf within t ds) h is
told_all within (fact ∷ facts) old new ds is h =
    told_all within facts h.0 new (with_delay fact ds)
    (subst (λ (t : Delays). IsOf within t (with_delay fact ds)) (sym h.1) (told_of within old ds fact is)) h.2

pub it_is_of_its_delays : ItIsOfItsDelays
it_is_of_its_delays within facts t h = told_all within facts (no_delays within) t [] (none_told within) h
