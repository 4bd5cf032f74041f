-- Events have one order.
use Rattle.std.proofs.Common.{◌≡◌, ◌∙◌, refl, sym, ap, ℕ, suc, ◌+◌, ◌<◌, ◌≤◌, max, Bool, true, false, cond, not, ◌&&◌, List, [], ◌∷◌, filter, length, get_or, arith, IsSortedByKey}
use Rattle.std.specs.Prelude.{◌==◌, nat_lt}
use Rattle.std.specs.List.{AllByRecursion}
use Rattle.std.specs.List.Sorted.{IsNonDecreasingBy, IsStableByKey, ties}
use Rattle.std.specs.Ordering.{is_lt, nat_cmp}
use Rattle.std.proofs.lemmas.Bool.{eqb-true, eq-eqb, ltb-true, ltb-false, ne_eqb}
use Rattle.std.proofs.lemmas.Bool.Decides.{nat_tests}
use Rattle.std.proofs.lemmas.List.Sorted.{IsNonDecreasingBy-from_sort}
use Rattle.pcap.specs.Record.{Record}
use Rattle.timeline.specs.Events.{record_events}
use Rattle.timeline.specs.Order.{at, CapturesRise, IsRising, KeepsWhatRises, merged, MergedIsInOrder, NothingElseIsInOrder, put_in}
use Rattle.timeline.specs.declared.event.Event.{Event}
use Rattle.timeline.specs.declared.event.Happening.TheVariants.{Change}
use Rattle.timeline.specs.declared.source.Tap.{Tap}

-- ---- the merged events are in order

-- two events of different moments, of which at most one is of this moment
passed_by : (m : ℕ) (e f : Event) (l k : List Event) (a b : Bool) → f.moment < e.moment → (f.moment == m) ≡ a → (e.moment == m) ≡ b → l ≡ cond b (e ∷ k) k
    → cond a (f ∷ l) l ≡ cond b (e ∷ cond a (f ∷ k) k) (cond a (f ∷ k) k)
passed_by m e f l k true true lt p q is = absurd (omega (arith, eqb-true _ _ p, eqb-true _ _ q))
passed_by m e f l k true false lt p q is = ap (λ t. f ∷ t) is
passed_by m e f l k false true lt p q is = is
passed_by m e f l k false false lt p q is = is

-- an event that is put in stands in front of the others of its moment
at-put_in : (m : ℕ) (e : Event) (es : List Event) → at m (put_in e es) ≡ at m (e ∷ es)
at-put_in m e [] = refl
at-put_in m e (f ∷ fs) = by_test (nat_lt f.moment e.moment) refl (at-put_in m e fs)
  where
    by_test : (b : Bool) → nat_lt f.moment e.moment ≡ b → at m (put_in e fs) ≡ at m (e ∷ fs) → at m (cond b (f ∷ put_in e fs) (e ∷ f ∷ fs)) ≡ at m (e ∷ f ∷ fs)
    by_test true is more = passed_by m e f (at m (put_in e fs)) (at m fs) (f.moment == m) (e.moment == m) (ltb-true _ _ is) refl refl more
    by_test false is more = refl

stable_merged : (m : ℕ) (all : List Event) → at m (merged all) ≡ at m all
stable_merged m [] = refl
stable_merged m (e ∷ es) = at-put_in m e (merged es) ∙ ap (λ l. cond (e.moment == m) (e ∷ l) l) (stable_merged m es)

rising-put_in : (least : ℕ) (e : Event) (es : List Event) → least ≤ e.moment → IsRising least es → IsRising least (put_in e es)
rising-put_in least e [] le h = (le, tt)
rising-put_in least e (f ∷ fs) le h = by_test (nat_lt f.moment e.moment) refl (λ more. rising-put_in f.moment e fs more h.1)
  where
    by_test : (b : Bool) → nat_lt f.moment e.moment ≡ b → (f.moment ≤ e.moment → IsRising f.moment (put_in e fs)) → IsRising least (cond b (f ∷ put_in e fs) (e ∷ f ∷ fs))
    by_test true is more = (h.0, more (omega (arith, ltb-true _ _ is)))
    by_test false is more = (le, (omega (arith, ltb-false _ _ is), h.1))

pub rising_merged : (all : List Event) → IsRising 0 (merged all)
rising_merged [] = tt
rising_merged (e ∷ es) = rising-put_in 0 e (merged es) (omega arith) (rising_merged es)

pub merged_in_order : MergedIsInOrder
merged_in_order all = record { rising = rising_merged all; stable = λ m. stable_merged m all }

-- ---- and nothing else is

at_own : (e : Event) (es : List Event) → at e.moment (e ∷ es) ≡ e ∷ at e.moment es
at_own e es = ap (λ b. cond b (e ∷ at e.moment es) (at e.moment es)) (eq-eqb e.moment e.moment refl)

none_before : (m least : ℕ) (es : List Event) → m < least → IsRising least es → at m es ≡ []
none_before m least [] lt h = refl
none_before m least (e ∷ es) lt h =
    ap (λ b. cond b (e ∷ at m es) (at m es)) (ne_eqb e.moment m (λ is. omega (arith, h.0)))
    ∙ none_before m e.moment es (omega (arith, h.0)) h.1

not_later : (x y : Event) (xs ys : List Event) → IsRising x.moment xs → ((m : ℕ) → at m (x ∷ xs) ≡ at m (y ∷ ys)) → x.moment ≤ y.moment
not_later x y xs ys h same = by_test (nat_lt y.moment x.moment) refl
  where
    by_test : (b : Bool) → nat_lt y.moment x.moment ≡ b → x.moment ≤ y.moment
    by_test false is = ltb-false _ _ is
    by_test true is =
        let none = none_before y.moment x.moment (x ∷ xs) (ltb-true _ _ is) (omega arith, h) in
        let own = at_own y ys in
        let both = same y.moment in
        absurd cc

tails_by : (a : Bool) (x y : Event) (l k : List Event) → cond a (x ∷ l) l ≡ cond a (y ∷ k) k → l ≡ k
tails_by true x y l k same = cc
tails_by false x y l k same = same

same_by : (n m : ℕ) (a b : List Event) → IsRising n a → IsRising m b → ((k : ℕ) → at k a ≡ at k b) → a ≡ b
same_by n m [] [] ra rb same = refl
same_by n m [] (y ∷ ys) ra rb same = let own = at_own y ys in let both = same y.moment in absurd cc
same_by n m (x ∷ xs) [] ra rb same = let own = at_own x xs in let both = same x.moment in absurd cc
same_by n m (x ∷ xs) (y ∷ ys) ra rb same =
    let before = not_later x y xs ys ra.1 same in
    let behind = not_later y x ys xs rb.1 (λ k. sym (same k)) in
    let together : x.moment ≡ y.moment = omega arith in
    let own = at_own x xs in
    let other : at x.moment (y ∷ ys) ≡ y ∷ at x.moment ys = ap (λ b. cond b (y ∷ at x.moment ys) (at x.moment ys)) (eq-eqb y.moment x.moment (sym together)) in
    let here = same x.moment in
    let head : x ≡ y = cc in
    let tails : (k : ℕ) → at k xs ≡ at k ys = λ k. tails_by (x.moment == k) x y (at k xs) (at k ys) (same k ∙ ap (λ t. cond (t == k) (y ∷ at k ys) (at k ys)) (sym together)) in
    let rest = same_by x.moment y.moment xs ys ra.1 rb.1 tails in
    cc

pub only_order : NothingElseIsInOrder
only_order all es is = same_by 0 0 es (merged all) is.rising (rising_merged all) (λ m. is.stable m ∙ sym (stable_merged m all))

-- ---- what a stable sort gives is in order

rising-from : (least : ℕ) (es : List Event) → ((k : ℕ) (d : Event) → k < length es → least ≤ (get_or es k d).moment) → IsNonDecreasingBy (λ e. e.moment) es → IsRising least es
rising-from least [] above up = tt
rising-from least (e ∷ es) above up =
    (above 0 e (omega arith), rising-from e.moment es (λ k d lt. up 0 (suc k) d (omega arith) (omega arith)) (λ i j d le lt. up (suc i) (suc j) d (omega arith) (omega arith)))

tie_is : (m k : ℕ) → not (is_lt (nat_cmp m k)) && not (is_lt (nat_cmp k m)) ≡ (k == m)
tie_is m k = grind (arith, nat_tests)

at-ties : (m : ℕ) (x : Event) → x.moment ≡ m → (es : List Event) → filter (ties (λ (a b : Event). is_lt (nat_cmp a.moment b.moment)) x) es ≡ at m es
at-ties m x is [] = refl
at-ties m x is (e ∷ es) =
    ap (λ t. cond (not (is_lt (nat_cmp t e.moment)) && not (is_lt (nat_cmp e.moment t))) (e ∷ filter (ties (λ (a b : Event). is_lt (nat_cmp a.moment b.moment)) x) es) (filter (ties (λ (a b : Event). is_lt (nat_cmp a.moment b.moment)) x) es)) is
    ∙ ap (λ b. cond b (e ∷ filter (ties (λ (a b : Event). is_lt (nat_cmp a.moment b.moment)) x) es) (filter (ties (λ (a b : Event). is_lt (nat_cmp a.moment b.moment)) x) es)) (tie_is m e.moment)
    ∙ ap (λ l. cond (e.moment == m) (e ∷ l) l) (at-ties m x is es)

pub sorted_is : (all es : List Event) → IsSortedByKey (λ (e : Event). e.moment) nat_cmp es → IsStableByKey (λ (e : Event). e.moment) nat_cmp all es → es ≡ merged all
sorted_is all es sorted stable =
    only_order all es
    (record {
      rising = rising-from 0 es (λ k d lt. omega arith) (IsNonDecreasingBy-from_sort (λ (e : Event). e.moment) es sorted);
      stable = λ m. let x : Event = record { moment = m; number = 0; happening = Change 0 } in sym (at-ties m x refl es) ∙ stable x ∙ at-ties m x refl all;
    })

-- ---- what holds of all events holds of them in order

pub all-put_in : (P : Event → Type 0) (e : Event) (es : List Event) → P e → AllByRecursion P es → AllByRecursion P (put_in e es)
all-put_in P e [] p h = (p, tt)
all-put_in P e (f ∷ fs) p h = by_test (nat_lt f.moment e.moment) (all-put_in P e fs p h.1)
  where
    by_test : (b : Bool) → AllByRecursion P (put_in e fs) → AllByRecursion P (cond b (f ∷ put_in e fs) (e ∷ f ∷ fs))
    by_test true more = (h.0, more)
    by_test false more = (p, h)

pub all_merged : (P : Event → Type 0) (all : List Event) → AllByRecursion P all → AllByRecursion P (merged all)
all_merged P [] h = tt
all_merged P (e ∷ es) h = all-put_in P e (merged es) h.0 (all_merged P es h.1)

-- ---- what rises already stays as it is

rising_from_less : (n m : ℕ) (es : List Event) → n ≤ m → IsRising m es → IsRising n es
rising_from_less n m [] le h = tt
rising_from_less n m (e ∷ es) le h = (omega (arith, h.0), h.1)

rising_kept : (test : Event → Bool) (least : ℕ) (es : List Event) → IsRising least es → IsRising least (filter test es)
rising_kept test least [] h = tt
rising_kept test least (e ∷ es) h = by_test (test e) (rising_kept test e.moment es h.1)
  where
    by_test : (b : Bool) → IsRising e.moment (filter test es) → IsRising least (cond b (e ∷ filter test es) (filter test es))
    by_test true more = (h.0, more)
    by_test false more = rising_from_less least e.moment (filter test es) h.0 more

at_either : (test : Event → Bool) (m : ℕ) (e : Event) (es : List Event) (a b : Bool) → test e ≡ a → (e.moment == m) ≡ b → at m (filter test es) ≡ filter test (at m es)
    → at m (cond a (e ∷ filter test es) (filter test es)) ≡ filter test (cond b (e ∷ at m es) (at m es))
at_either test m e es true true p q more = rw (p, q) (ap (λ l. e ∷ l) more)
at_either test m e es true false p q more = rw q more
at_either test m e es false true p q more = rw p more
at_either test m e es false false p q more = more

at-filter : (test : Event → Bool) (m : ℕ) (es : List Event) → at m (filter test es) ≡ filter test (at m es)
at-filter test m [] = refl
at-filter test m (e ∷ es) = at_either test m e es (test e) (e.moment == m) refl refl (at-filter test m es)

pub rising_stays : KeepsWhatRises
rising_stays test all h =
    same_by 0 0 (filter test (merged all)) (filter test all) (rising_kept test 0 (merged all) (rising_merged all)) h
    (λ m. at-filter test m (merged all) ∙ ap (filter test) (stable_merged m all) ∙ sym (at-filter test m all))

rising_records : (tap : Tap) (count latest : ℕ) (rs : List Record) → IsRising latest (record_events tap count latest rs)
rising_records tap count latest [] = tt
rising_records tap count latest (r ∷ rs) = (omega arith, rising_records tap (count + 1) (max r.moment latest) rs)

pub captures_rise : CapturesRise
captures_rise c = rising_records c.tap 0 0 c.capture.records
