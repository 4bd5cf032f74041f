-- The refusals of a list of changes.
use Rattle.std.proofs.Common.{◌≡◌, ◌≢◌, ◌∙◌, refl, sym, ap, ℕ, ◌+◌, ◌<◌, ◌≤◌, ◌==◌, nat_lt, Bool, true, false, cond, List, [], ◌∷◌, ◌++◌, length, get_or, take, filter, Option, Some, None, arith, zero, suc, add-one}
use Rattle.std.specs.Prelude.{slice_get}
use Rattle.std.specs.List.{cons_option, filter_map, range_with_len}
use Rattle.std.specs.Option.{option_and_then, option_map, option_to_list}
use Rattle.std.proofs.lemmas.List.Elements.{filter_map-append}
use Rattle.std.proofs.lemmas.Bool.{eq-eqb, eqb-true, ltb-false, ltb-true}
use Rattle.std.proofs.lemmas.List.Sums.{fold_more}
use Rattle.std.proofs.lemmas.Option.{slice_get-get_or, slice_get_past}
use Rattle.overlay.specs.declared.settings.change.TimedChange.{TimedChange}
use Rattle.endpoint_core.specs.Change.{changed, refused}
use Rattle.endpoint_core.specs.Settings.{Settings}
use Rattle.endpoint_core.specs.declared.state.fault.ChangeFault.{ChangeFault}
use Rattle.check_on_files.specs.Foreseen.{TellsEachRefusal, refusal_at, refusals, settings_behind}
use Rattle.check_on_files.specs.declared.foreseen.foreseen.Foreseen.{Foreseen}

range-more : (a n : ℕ) → range_with_len a (suc n) ≡ range_with_len a n ++ (a + n) ∷ []
range-more a zero = let e : a ≡ a + 0 = omega arith in ap (λ (x : ℕ). x ∷ []) e
range-more a (suc n) =
    let e : a + 1 + n ≡ a + suc n = omega arith in
    ap (λ (xs : List ℕ). a ∷ xs) (range-more (a + 1) n ∙ ap (λ (x : ℕ). range_with_len (a + 1) n ++ x ∷ []) e)

listed : {A : Type 0} (o : Option A) → cons_option o [] ≡ option_to_list o
listed None = refl
listed (Some x) = refl

-- those of one change more
pub one_more : (S : Settings) (changes : List TimedChange) (k : ℕ)
    → filter_map (refusal_at S changes) (range_with_len 0 (k + 1)) ≡ filter_map (refusal_at S changes) (range_with_len 0 k) ++ option_to_list (refusal_at S changes k)
one_more S changes k =
    let e : 0 + k ≡ k = omega arith in
    ap (λ (n : ℕ). filter_map (refusal_at S changes) (range_with_len 0 n)) (add-one k) ∙ ap (filter_map (refusal_at S changes)) (range-more 0 k)
    ∙ filter_map-append (refusal_at S changes) (range_with_len 0 k) ((0 + k) ∷ [])
    ∙ ap (λ (xs : List Foreseen). filter_map (refusal_at S changes) (range_with_len 0 k) ++ xs) (ap (λ (n : ℕ). filter_map (refusal_at S changes) (n ∷ [])) e ∙ listed (refusal_at S changes k))

-- the change of an index that is there
pub refusal_there : (S : Settings) (changes : List TimedChange) (k : ℕ) (c : TimedChange) → k < length changes → c ≡ get_or changes k c
    → refusal_at S changes k ≡ option_map (λ why. record { number = k + 1; at = c.at; fault = why }) (refused (settings_behind S (take k changes)) c.change)
refusal_there S changes k c there is =
    ap (λ (o : Option TimedChange). option_and_then (λ (c : TimedChange). option_map (λ why. record { number = k + 1; at = c.at; fault = why }) (refused (settings_behind S (take k changes)) c.change)) o)
    (slice_get-get_or changes k c there ∙ ap Some (sym is))

-- the settings behind one change more
pub settings_more : (S : Settings) (changes : List TimedChange) (k : ℕ) (c : TimedChange) → k < length changes → c ≡ get_or changes k c
    → settings_behind S (take (k + 1) changes) ≡ changed (settings_behind S (take k changes)) c.change
settings_more S changes k c there is =
    fold_more (λ (S : Settings) (c : TimedChange). changed S c.change) S changes k c there ∙ ap (λ (c : TimedChange). changed (settings_behind S (take k changes)) c.change) (sym is)

-- ---- each number once

-- what stands at an index has its number
abbrev IsNumbered : (ℕ → Option Foreseen) → Type 0
IsNumbered g = (i : ℕ) (f : Foreseen) → g i ≡ Some f → f.number ≡ i + 1

-- those of a number
abbrev of_number : ℕ → List Foreseen → List Foreseen
of_number k fs = filter (λ f. f.number == k + 1) fs

differs : (a b : ℕ) → a ≢ b → (a == b) ≡ false
differs a b h = by (a == b) refl
  where
    by : (r : Bool) → (a == b) ≡ r → r ≡ false
    by true e = absurd (h (eqb-true a b e))
    by false e = refl

passed : (k : ℕ) (f : Foreseen) (fs : List Foreseen) → f.number ≢ k + 1 → of_number k (f ∷ fs) ≡ of_number k fs
passed k f fs h = ap (λ (b : Bool). cond b (f ∷ of_number k fs) (of_number k fs)) (differs f.number (k + 1) h)

taken : (k : ℕ) (f : Foreseen) (fs : List Foreseen) → f.number ≡ k + 1 → of_number k (f ∷ fs) ≡ f ∷ of_number k fs
taken k f fs h = ap (λ (b : Bool). cond b (f ∷ of_number k fs) (of_number k fs)) (eq-eqb f.number (k + 1) h)

-- an index that isn't looked for gives none
skipped : (g : ℕ → Option Foreseen) (k a : ℕ) (fs : List Foreseen) → IsNumbered g → a ≢ k → of_number k (cons_option (g a) fs) ≡ of_number k fs
skipped g k a fs is other = by (g a) refl
  where
    by : (o : Option Foreseen) → g a ≡ o → of_number k (cons_option o fs) ≡ of_number k fs
    by None e = refl
    by (Some f) e = let n = is a f e in passed k f fs (λ same. other (omega arith))

misses : (g : ℕ → Option Foreseen) (k a n : ℕ) → IsNumbered g → (k < a → ⊥) → a + n ≤ k → of_number k (filter_map g (range_with_len a n)) ≡ []
misses g k a zero is low high = refl
misses g k a (suc n) is low high =
    skipped g k a (filter_map g (range_with_len (a + 1) n)) is (λ e. omega arith) ∙ misses g k (a + 1) n is (λ lower. omega arith) (omega arith)

above : (g : ℕ → Option Foreseen) (k a n : ℕ) → IsNumbered g → k < a → of_number k (filter_map g (range_with_len a n)) ≡ []
above g k a zero is low = refl
above g k a (suc n) is low = skipped g k a (filter_map g (range_with_len (a + 1) n)) is (λ e. omega arith) ∙ above g k (a + 1) n is (omega arith)

finds : (g : ℕ → Option Foreseen) (k a n : ℕ) → IsNumbered g → a ≤ k → k < a + n → of_number k (filter_map g (range_with_len a n)) ≡ option_to_list (g k)
finds g k a zero is low high = absurd (omega arith)
finds g k a (suc n) is low high = by (a == k) refl (λ next. finds g k (a + 1) n is next (omega arith))
  where
    rest : List Foreseen
    rest = filter_map g (range_with_len (a + 1) n)

    here : a ≡ k → (o : Option Foreseen) → g a ≡ o → of_number k (cons_option o rest) ≡ option_to_list o
    here same None e = above g k (a + 1) n is (omega arith)
    here same (Some f) e = let m = is a f e in taken k f rest (omega arith) ∙ ap (λ (fs : List Foreseen). f ∷ fs) (above g k (a + 1) n is (omega arith))

    by : (b : Bool) → (a == k) ≡ b → (a + 1 ≤ k → of_number k rest ≡ option_to_list (g k)) → of_number k (cons_option (g a) rest) ≡ option_to_list (g k)
    by true e later = let same = eqb-true a k e in here same (g a) refl ∙ ap (λ (i : ℕ). option_to_list (g i)) same
    by false e later =
        let other : a ≢ k = λ same. absurd (cc (eq-eqb a k same)) in
        skipped g k a rest is other ∙ later (omega (arith, other))

numbered : (k : ℕ) (o : Option TimedChange) (r : TimedChange → Option ChangeFault) (f : Foreseen)
    → option_and_then (λ (c : TimedChange). option_map (λ why. let f : Foreseen = record { number = k + 1; at = c.at; fault = why } in f) (r c)) o ≡ Some f → f.number ≡ k + 1
numbered k None r f e = absurd cc
numbered k (Some c) r f e = by (r c) e
  where
    by : (why : Option ChangeFault) → option_map (λ why. let f : Foreseen = record { number = k + 1; at = c.at; fault = why } in f) why ≡ Some f → f.number ≡ k + 1
    by None e = absurd cc
    by (Some why) e = cc

pub tells_each_refusal : TellsEachRefusal
tells_each_refusal S changes k = by (nat_lt k (length changes)) refl
  where
    is : IsNumbered (refusal_at S changes)
    is i f e = numbered i (slice_get changes i) (λ c. refused (settings_behind S (take i changes)) c.change) f e

    by : (b : Bool) → nat_lt k (length changes) ≡ b → of_number k (refusals S changes) ≡ option_to_list (refusal_at S changes k)
    by true e = finds (refusal_at S changes) k 0 (length changes) is (omega arith) (omega (arith, ltb-true k (length changes) e))
    by false e =
        let past : length changes ≤ k = omega (arith, ltb-false k (length changes) e) in
        misses (refusal_at S changes) k 0 (length changes) is (λ low. omega arith) (omega arith)
        ∙ ap (λ (o : Option TimedChange). option_to_list (option_and_then (λ (c : TimedChange). option_map (λ why. let f : Foreseen = record { number = k + 1; at = c.at; fault = why } in f) (refused (settings_behind S (take k changes)) c.change)) o)) (sym (slice_get_past changes k past))

-- ---- one change more

pub listed_one : (S : Settings) (changes : List TimedChange) (k : ℕ) (c : TimedChange) (before now : List Foreseen) (why : Option ChangeFault) → k < length changes → c ≡ get_or changes k c
    → before ≡ filter_map (refusal_at S changes) (range_with_len 0 k) → why ≡ refused (settings_behind S (take k changes)) c.change
    → now ≡ before ++ option_to_list (option_map (λ w. let f : Foreseen = record { number = k + 1; at = c.at; fault = w } in f) why)
    → now ≡ filter_map (refusal_at S changes) (range_with_len 0 (k + 1))
listed_one S changes k c before now why there is so_far why_is now_is =
    now_is ∙ ap (λ (fs : List Foreseen). fs ++ option_to_list (option_map (λ w. let f : Foreseen = record { number = k + 1; at = c.at; fault = w } in f) why)) so_far
    ∙ ap (λ (o : Option Foreseen). filter_map (refusal_at S changes) (range_with_len 0 k) ++ option_to_list o)
    (ap (option_map (λ w. let f : Foreseen = record { number = k + 1; at = c.at; fault = w } in f)) why_is ∙ sym (refusal_there S changes k c there is))
    ∙ sym (one_more S changes k)
