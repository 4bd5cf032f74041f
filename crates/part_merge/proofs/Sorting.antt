-- The piece that comes first is the first of those that are merged.
use Rattle.std.proofs.Common.{◌≡◌, ◌∙◌, refl, sym, ap, subst, ℕ, zero, suc, ◌<◌, ◌≤◌, Bool, true, false, cond, List, [], ◌∷◌, ◌++◌, append_assoc, length, slice_index_or, slice_set, arith}
use Rattle.std.specs.List.{AllByRecursion}
use Rattle.std.specs.Prelude.{nat_lt}
use Rattle.std.proofs.lemmas.Bool.{le-ltb, lt-ltb}
use Rattle.timeline.proofs.KnownEvents.{all-append}
use Rattle.part_merge.specs.Whole.{AllRise}
use Rattle.part_merge.specs.Merged.{IsRising, Piece, merged, put_in, side_by_side, sorted}

-- ---- a piece with greater numbers in front of it and none smaller behind it

-- all of some pieces keep to a test of numbers, also in order
all_put : (P : ℕ → Type 0) (p : Piece) (ps : List Piece) → P p.number → AllByRecursion (λ (q : Piece). P q.number) ps → AllByRecursion (λ (q : Piece). P q.number) (put_in p ps)
all_put P p [] here all = (here, tt)
all_put P p (q ∷ qs) here all = by (nat_lt q.number p.number) (all_put P p qs here all.1)
  where
    by : (b : Bool) → AllByRecursion (λ (q : Piece). P q.number) (put_in p qs) → AllByRecursion (λ (q : Piece). P q.number) (cond b (q ∷ put_in p qs) (p ∷ q ∷ qs))
    by true rest = (all.0, rest)
    by false rest = (here, all)

pub all_sorted : (P : ℕ → Type 0) (ps : List Piece) → AllByRecursion (λ (q : Piece). P q.number) ps → AllByRecursion (λ (q : Piece). P q.number) (sorted ps)
all_sorted P [] all = tt
all_sorted P (p ∷ ps) all = all_put P p (sorted ps) all.0 (all_sorted P ps all.1)

before_all : (p : Piece) (ps : List Piece) → AllByRecursion (λ (q : Piece). p.number ≤ q.number) ps → put_in p ps ≡ p ∷ ps
before_all p [] h = refl
before_all p (q ∷ qs) h = ap (λ b. cond b (q ∷ put_in p qs) (p ∷ q ∷ qs)) (le-ltb q.number p.number h.0)

least_first : (before : List Piece) (p : Piece) (behind : List Piece) → AllByRecursion (λ (q : Piece). p.number < q.number) before → AllByRecursion (λ (q : Piece). p.number ≤ q.number) behind
    → sorted (before ++ p ∷ behind) ≡ p ∷ sorted (before ++ behind)
least_first [] p behind later no_sooner = before_all p (sorted behind) (all_sorted (λ n. p.number ≤ n) behind no_sooner)
least_first (q ∷ before) p behind later no_sooner =
    ap (put_in q) (least_first before p behind later.1 no_sooner)
    ∙ ap (λ b. cond b (p ∷ put_in q (sorted (before ++ behind))) (q ∷ p ∷ sorted (before ++ behind))) (lt-ltb p.number q.number later.0)

-- ---- one part

all_greater : (n m : ℕ) (ps : List Piece) → n ≤ m → IsRising m ps → AllByRecursion (λ (q : Piece). n < q.number) ps
all_greater n m [] le h = tt
all_greater n m (p ∷ ps) le h = (omega (arith, h.0, le), all_greater n p.number ps (omega (arith, h.0, le)) h.1)

all_no_less : (n m : ℕ) (ps : List Piece) → n ≤ m → IsRising m ps → AllByRecursion (λ (q : Piece). n ≤ q.number) ps
all_no_less n m [] le h = tt
all_no_less n m (p ∷ ps) le h = (omega (arith, h.0, le), all_no_less n p.number ps (omega (arith, h.0, le)) h.1)

-- the first piece of a part, where there is one, has a number greater than this; or no smaller one
abbrev pub BeginsLater : ℕ → List Piece → Type 0
BeginsLater n [] = Unit {0}
BeginsLater n (p ∷ ps) = n < p.number

abbrev pub BeginsNoSooner : ℕ → List Piece → Type 0
BeginsNoSooner n [] = Unit {0}
BeginsNoSooner n (p ∷ ps) = n ≤ p.number

part_later : (n : ℕ) (ps : List Piece) → IsRising 0 ps → BeginsLater n ps → AllByRecursion (λ (q : Piece). n < q.number) ps
part_later n [] rises later = tt
part_later n (p ∷ ps) rises later = (later, all_greater n p.number ps (omega (arith, later)) rises.1)

part_no_sooner : (n : ℕ) (ps : List Piece) → IsRising 0 ps → BeginsNoSooner n ps → AllByRecursion (λ (q : Piece). n ≤ q.number) ps
part_no_sooner n [] rises le = tt
part_no_sooner n (p ∷ ps) rises le = (le, all_no_less n p.number ps le rises.1)

-- ---- all parts

all_parts : (n : ℕ) (parts : List (List Piece)) → AllRise parts → ((k : ℕ) → k < length parts → BeginsNoSooner n (slice_index_or parts k []))
    → AllByRecursion (λ (q : Piece). n ≤ q.number) (side_by_side parts)
all_parts n [] rise h = tt
all_parts n (ps ∷ others) rise h =
    all-append (λ (q : Piece). n ≤ q.number) ps (side_by_side others) (part_no_sooner n ps rise.0 (h 0 (omega arith))) (all_parts n others rise.1 (λ k lt. h (suc k) (omega arith)))

-- one piece stands among all, behind greater ones and before none that is smaller
record Splits (parts new : List (List Piece)) (p : Piece) : Type 0 where
  pub before : List Piece
  pub behind : List Piece
  pub with_it : side_by_side parts ≡ before ++ p ∷ behind
  pub without_it : side_by_side new ≡ before ++ behind
  pub later : AllByRecursion (λ (q : Piece). p.number < q.number) before
  pub no_sooner : AllByRecursion (λ (q : Piece). p.number ≤ q.number) behind

splits : (parts : List (List Piece)) (i : ℕ) (p : Piece) (ps : List Piece) → AllRise parts → i < length parts → slice_index_or parts i [] ≡ p ∷ ps
    → ((k : ℕ) → k < i → BeginsLater p.number (slice_index_or parts k [])) → ((k : ℕ) → k < length parts → BeginsNoSooner p.number (slice_index_or parts k []))
    → Splits parts (slice_set parts i ps) p
splits [] i p ps rise there here later no_sooner = absurd (omega (arith, there))
splits (qs ∷ others) zero p ps rise there here later no_sooner =
    let rises : IsRising 0 (p ∷ ps) = subst (IsRising 0) here rise.0 in
    record {
      before = [];
      behind = ps ++ side_by_side others;
      with_it = ap (λ l. l ++ side_by_side others) here;
      without_it = refl;
      later = tt;
      no_sooner = all-append (λ (q : Piece). p.number ≤ q.number) ps (side_by_side others) (all_no_less p.number p.number ps (omega arith) rises.1)
          (all_parts p.number others rise.1 (λ k lt. no_sooner (suc k) (omega arith)));
    }
splits (qs ∷ others) (suc i) p ps rise there here later no_sooner =
    let rest = splits others i p ps rise.1 (omega arith) here (λ k lt. later (suc k) (omega arith)) (λ k lt. no_sooner (suc k) (omega arith)) in
    record {
      before = qs ++ rest.before;
      behind = rest.behind;
      with_it = ap (λ l. qs ++ l) rest.with_it ∙ sym (append_assoc qs rest.before (p ∷ rest.behind));
      without_it = ap (λ l. qs ++ l) rest.without_it ∙ sym (append_assoc qs rest.before rest.behind);
      later = all-append (λ (q : Piece). p.number < q.number) qs rest.before (part_later p.number qs rise.0 (later 0 (omega arith))) rest.later;
      no_sooner = rest.no_sooner;
    }

pub comes_first : (parts : List (List Piece)) (i : ℕ) (p : Piece) (ps : List Piece) → AllRise parts → i < length parts → slice_index_or parts i [] ≡ p ∷ ps
    → ((k : ℕ) → k < i → BeginsLater p.number (slice_index_or parts k [])) → ((k : ℕ) → k < length parts → BeginsNoSooner p.number (slice_index_or parts k []))
    → merged parts ≡ p ∷ merged (slice_set parts i ps)
comes_first parts i p ps rise there here later no_sooner =
    let split = splits parts i p ps rise there here later no_sooner in
    ap sorted split.with_it ∙ least_first split.before p split.behind split.later split.no_sooner ∙ ap (λ l. p ∷ sorted l) (sym split.without_it)

-- what is left of a part rises too
rising_less : (n m : ℕ) (ps : List Piece) → n ≤ m → IsRising m ps → IsRising n ps
rising_less n m [] le h = tt
rising_less n m (p ∷ ps) le h = (omega (arith, h.0, le), h.1)

pub rise_on : (parts : List (List Piece)) (i : ℕ) (p : Piece) (ps : List Piece) → AllRise parts → i < length parts → slice_index_or parts i [] ≡ p ∷ ps → AllRise (slice_set parts i ps)
rise_on [] i p ps rise there here = tt
rise_on (qs ∷ others) zero p ps rise there here = let rises : IsRising 0 (p ∷ ps) = subst (IsRising 0) here rise.0 in (rising_less 0 p.number ps (omega arith) rises.1, rise.1)
rise_on (qs ∷ others) (suc i) p ps rise there here = (rise.0, rise_on others i p ps rise.1 (omega arith) here)

-- where no part has a piece, none is merged
pub none_merged : (parts : List (List Piece)) → ((k : ℕ) → k < length parts → slice_index_or parts k [] ≡ []) → merged parts ≡ []
none_merged parts h = ap sorted (nothing parts h)
  where
    nothing : (parts : List (List Piece)) → ((k : ℕ) → k < length parts → slice_index_or parts k [] ≡ []) → side_by_side parts ≡ []
    nothing [] h = refl
    nothing (ps ∷ others) h = ap (λ l. l ++ side_by_side others) (h 0 (omega arith)) ∙ nothing others (λ k lt. h (suc k) (omega arith))
