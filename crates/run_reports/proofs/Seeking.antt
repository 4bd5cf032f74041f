-- What is sought, read from names and marked by events.
use Rattle.std.proofs.Common.{◌≡◌, ◌≢◌, ◌∙◌, ap, subst, sym, refl, ℕ, zero, suc, ◌+◌, ◌<◌, Bool, true, false, eqb, ◌||◌, List, [], ◌∷◌, ◌++◌, Bor, map, length, replicate, set, take, drop, get_or, Option, Some, None, MatchOption, ◌⊎◌, inl, inr, arith, append-nil, append_assoc}
use Rattle.std.proofs.lemmas.Bool.{cases_lt, eq-eqb, eqb-false, eqb-true, cond-true, cond-false}
use Rattle.std.proofs.lemmas.List.{get_or-replicate, get_or-set_other, get_or-set_same, get_or_past, length-map, length-replicate, length-take, map_more}
use Rattle.std.specs.Prelude.{Result, Ok, Err, not, option_map, ◌&&◌}
use Rattle.std.specs.Str.Pattern.{FindsTextPrefix, StripsPrefix}
use Rattle.std.proofs.Math.Bool.{and-false, or-false}
use Rattle.std.specs.List.{list_any}
use Rattle.wire.specs.declared.ether.reason.Reason.{Reason}
use Rattle.encapsulate.specs.Remote.{sizes}
use Rattle.endpoint_core.specs.Decision.{Decision}
use Rattle.timeline.specs.declared.source.Tap.TheVariants.{Port, Underlay}
use Rattle.run_reports.specs.Sought.{address_at, has_address, has_reason, addresses_at, addresses_sought, address_in, address_met, behind, is_for, is_new_address, is_new_by, is_new_reason, met_by, numbers_from, numbers_in, reason_at, reason_met, reasons_in, reasons_sought, unsent}
use Rattle.run_reports.specs.declared.passing.Passing.{Passing}
use Rattle.run_reports.specs.declared.wanted.Reasons.{Reasons}
use Rattle.run_reports.specs.declared.sought.SoughtAddress.{SoughtAddress}
use Rattle.run_reports.specs.declared.sought.SoughtReason.{SoughtReason}

-- ---- letters at the front of a text

pub behind_front : (letters rest : List ℕ) → behind letters (letters ++ rest) ≡ Some rest
behind_front [] rest = refl
behind_front (c ∷ cs) rest = cond-true _ _ _ (eq-eqb c c refl) ∙ behind_front cs rest

pub behind_none : (letters text : List ℕ) → ((rest : List ℕ) → text ≢ letters ++ rest) → behind letters text ≡ None
behind_none [] text lacks = absurd (lacks text refl)
behind_none (c ∷ cs) [] lacks = refl
behind_none (c ∷ cs) (d ∷ ds) lacks = by (eqb c d) refl (λ same. behind_none cs ds (λ rest is. lacks rest (λ i. sym same i ∷ is i)))
  where
    by : (q : Bool) → eqb c d ≡ q → (c ≡ d → behind cs ds ≡ None) → behind (c ∷ cs) (d ∷ ds) ≡ None
    by true e below = cond-true _ _ _ e ∙ below (eqb-true c d e)
    by false e below = cond-false _ _ _ e

-- ---- lists that grow

pub numbers_more : (n k : ℕ) → numbers_from n (suc k) ≡ numbers_from n k ++ (n + k) ∷ []
numbers_more n zero =
    let here : n ≡ n + 0 = omega arith in
    ap (λ m. m ∷ []) here
numbers_more n (suc k) =
    let next : suc n + k ≡ n + suc k = omega arith in
    ap (λ ms. n ∷ ms) (numbers_more (suc n) k) ∙ ap (λ m. n ∷ (numbers_from (suc n) k ++ m ∷ [])) next

-- what names ask for, with one name more
pub reasons_more : (i : ℕ) (names : List (List ℕ)) (name : List ℕ) → reasons_sought i (names ++ name ∷ []) ≡ reasons_sought i names ++ map (reason_at (i + length names)) (numbers_in (reasons_in name))
reasons_more i [] name =
    let here : i ≡ i + 0 = omega arith in
    append-nil _ ∙ ap (λ k. map (reason_at k) (numbers_in (reasons_in name))) here
reasons_more i (n ∷ ns) name =
    let next : suc i + length ns ≡ i + suc (length ns) = omega arith in
    ap (λ rs. map (reason_at i) (numbers_in (reasons_in n)) ++ rs) (reasons_more (suc i) ns name)
    ∙ sym (append_assoc (map (reason_at i) (numbers_in (reasons_in n))) _ _)
    ∙ ap (λ k. (map (reason_at i) (numbers_in (reasons_in n)) ++ reasons_sought (suc i) ns) ++ map (reason_at k) (numbers_in (reasons_in name))) next

pub addresses_more : (i : ℕ) (names : List (List ℕ)) (name : List ℕ) → addresses_sought i (names ++ name ∷ []) ≡ addresses_sought i names ++ addresses_at (i + length names) (address_in name)
addresses_more i [] name =
    let here : i ≡ i + 0 = omega arith in
    append-nil _ ∙ ap (λ k. addresses_at k (address_in name)) here
addresses_more i (n ∷ ns) name =
    let next : suc i + length ns ≡ i + suc (length ns) = omega arith in
    ap (λ rs. addresses_at i (address_in n) ++ rs) (addresses_more (suc i) ns name)
    ∙ sym (append_assoc (addresses_at i (address_in n)) _ _)
    ∙ ap (λ k. (addresses_at i (address_in n) ++ addresses_sought (suc i) ns) ++ addresses_at k (address_in name)) next

abbrev now : Bor (List ℕ) → List ℕ
now name = name.now

pub reasons_next : (names : List (Bor (List ℕ))) (i : ℕ) (d : Bor (List ℕ)) → i < length names
    → reasons_sought 0 (map (λ name. name.now) (take (i + 1) names))
    ≡ reasons_sought 0 (map (λ name. name.now) (take i names)) ++ map (reason_at i) (numbers_in (reasons_in (get_or names i d).now))
reasons_next names i d lt =
    let many : 0 + length (map now (take i names)) ≡ i = omega (arith, length-map (take i names) now, length-take i names, lt) in
    ap (reasons_sought 0) (map_more now names i d lt)
    ∙ reasons_more 0 (map now (take i names)) (get_or names i d).now
    ∙ ap (λ k. reasons_sought 0 (map now (take i names)) ++ map (reason_at k) (numbers_in (reasons_in (get_or names i d).now))) many

pub addresses_next : (names : List (Bor (List ℕ))) (i : ℕ) (d : Bor (List ℕ)) → i < length names
    → addresses_sought 0 (map (λ name. name.now) (take (i + 1) names))
    ≡ addresses_sought 0 (map (λ name. name.now) (take i names)) ++ addresses_at i (address_in (get_or names i d).now)
addresses_next names i d lt =
    let many : 0 + length (map now (take i names)) ≡ i = omega (arith, length-map (take i names) now, length-take i names, lt) in
    ap (addresses_sought 0) (map_more now names i d lt)
    ∙ addresses_more 0 (map now (take i names)) (get_or names i d).now
    ∙ ap (λ k. addresses_sought 0 (map now (take i names)) ++ addresses_at k (address_in (get_or names i d).now)) many

-- ---- where nothing is left to be sought

open_or : (a b : Bool) → (not a || b) ≡ false → (a ≡ true) × (b ≡ false)
open_or true b h = (refl, h)
open_or false b h = absurd cc

-- of things that are met nothing is new, where meeting again changes none of them
closed : {K : Type 0} (is_met has : K → Bool) (met : K → K) → ((k : K) → is_met k ≡ true → met k ≡ k) → (ks : List K)
    → list_any (λ k. not (is_met k)) ks ≡ false → (list_any (λ k. not (is_met k) && has k) ks ≡ false) × (map met ks ≡ ks)
closed is_met has met same [] none = (refl, refl)
closed is_met has met same (k ∷ ks) none =
    let both = open_or (is_met k) (list_any (λ k. not (is_met k)) ks) none in
    let rest = closed is_met has met same ks both.1 in
    (by (is_met k) (list_any (λ k. not (is_met k) && has k) ks) both.0 rest.0, λ i. same k both.0 i ∷ rest.1 i)
  where
    by : (m r : Bool) → m ≡ true → r ≡ false → ((not m && has k) || r) ≡ false
    by true false is last = refl
    by true true is last = absurd cc
    by false r is last = absurd cc

pub reasons_closed : (d : Option Decision) (ks : List SoughtReason) → list_any (λ (k : SoughtReason). not k.is_met) ks ≡ false
    → (list_any (is_new_reason d) ks ≡ false) × (map (reason_met d) ks ≡ ks)
reasons_closed d =
    closed (λ (k : SoughtReason). k.is_met) (has_reason d) (reason_met d)
    (λ k is. ap (λ b. record k { is_met = b }) (ap (λ b. b || has_reason d k) is ∙ sym is))

pub addresses_closed : (p : Option Passing) (ks : List SoughtAddress) → list_any (λ (k : SoughtAddress). not k.is_met) ks ≡ false
    → (list_any (is_new_address p) ks ≡ false) × (map (address_met p) ks ≡ ks)
addresses_closed p =
    closed (λ (k : SoughtAddress). k.is_met) (has_address p) (address_met p)
    (λ k is. ap (λ b. record k { is_met = b }) (ap (λ b. b || has_address p k) is ∙ sym is))

-- ---- an event that has nothing

pub reasons_without : (ks : List SoughtReason) → (list_any (is_new_reason None) ks ≡ false) × (map (reason_met None) ks ≡ ks)
reasons_without [] = (refl, refl)
reasons_without (k ∷ ks) =
    let rest = reasons_without ks in
    (ap (λ b. b || list_any (is_new_reason None) ks) (and-false (not k.is_met)) ∙ rest.0, λ i. record k { is_met = or-false k.is_met i } ∷ rest.1 i)

pub addresses_without : (ks : List SoughtAddress) → (list_any (is_new_address None) ks ≡ false) × (map (address_met None) ks ≡ ks)
addresses_without [] = (refl, refl)
addresses_without (k ∷ ks) =
    let rest = addresses_without ks in
    (ap (λ b. b || list_any (is_new_address None) ks) (and-false (not k.is_met)) ∙ rest.0, λ i. record k { is_met = or-false k.is_met i } ∷ rest.1 i)

-- ---- a list of which the first are marked

abbrev pub marked : {X : Type 0} → (X → X) → ℕ → List X → List X
marked f i xs = map f (take i xs) ++ drop i xs

pub marked_here : {X : Type 0} (f : X → X) (xs : List X) (i : ℕ) (d : X) → i < length xs → get_or (marked f i xs) i d ≡ get_or xs i d
marked_here f [] i d lt = absurd (omega arith)
marked_here f (x ∷ xs) zero d lt = refl
marked_here f (x ∷ xs) (suc i) d lt = marked_here f xs i d (omega arith)

pub marked_set : {X : Type 0} (f : X → X) (xs : List X) (i : ℕ) (d : X) → i < length xs → set (marked f i xs) i (f (get_or xs i d)) ≡ marked f (suc i) xs
marked_set f [] i d lt = absurd (omega arith)
marked_set f (x ∷ xs) zero d lt = refl
marked_set f (x ∷ xs) (suc i) d lt = ap (λ ys. f x ∷ ys) (marked_set f xs i d (omega arith))

pub marked_stays : {X : Type 0} (f : X → X) (xs : List X) (i : ℕ) (d : X) → i < length xs → f (get_or xs i d) ≡ get_or xs i d → marked f i xs ≡ marked f (suc i) xs
marked_stays f [] i d lt same = absurd (omega arith)
marked_stays f (x ∷ xs) zero d lt same = ap (λ y. y ∷ xs) (sym same)
marked_stays f (x ∷ xs) (suc i) d lt same = ap (λ ys. f x ∷ ys) (marked_stays f xs i d (omega arith) same)

-- whether one of the first passes, with one more
pub any_more : {X : Type 0} (p : X → Bool) (xs : List X) (i : ℕ) (d : X) → i < length xs → list_any p (take (suc i) xs) ≡ (list_any p (take i xs) || p (get_or xs i d))
any_more p [] i d lt = absurd (omega arith)
any_more p (x ∷ xs) zero d lt = or-false (p x)
any_more p (x ∷ xs) (suc i) d lt = ap (λ b. p x || b) (any_more p xs i d (omega arith)) ∙ sym (or_assoc (p x) (list_any p (take i xs)) (p (get_or xs i d)))
  where
    or_assoc : (a b c : Bool) → ((a || b) || c) ≡ (a || (b || c))
    or_assoc true b c = refl
    or_assoc false b c = refl

-- what is put back where it was
set_same : {X : Type 0} (xs : List X) (i : ℕ) (d : X) → set xs i (get_or xs i d) ≡ xs
set_same [] zero d = refl
set_same [] (suc i) d = refl
set_same (x ∷ xs) zero d = refl
set_same (x ∷ xs) (suc i) d = ap (λ ys. x ∷ ys) (set_same xs i d)

-- one more is met
pub loop_met : {X : Type 0} (f : X → X) (p : X → Bool) (old now : List X) (i : ℕ) (d y : X) → i < length old → now ≡ marked f i old → y ≡ f (get_or old i d) → p (get_or old i d) ≡ true
    → (true ≡ list_any p (take (i + 1) old)) × (set now i y ≡ marked f (i + 1) old)
loop_met f p old now i d y lt is made new =
    let one : suc i ≡ i + 1 = omega arith in (
      sym (any_more p old i d lt ∙ ap (λ b. list_any p (take i old) || b) new ∙ or_true (list_any p (take i old))) ∙ ap (λ k. list_any p (take k old)) one,
      ap (λ xs. set xs i y) is ∙ ap (λ z. set (marked f i old) i z) made ∙ marked_set f old i d lt ∙ ap (λ k. marked f k old) one,
    )
  where
    or_true : (a : Bool) → (a || true) ≡ true
    or_true true = refl
    or_true false = refl

-- one more is passed
pub loop_passed : {X : Type 0} (f : X → X) (p : X → Bool) (old now : List X) (i : ℕ) (d : X) (first : Bool) → i < length old → first ≡ list_any p (take i old) → now ≡ marked f i old
    → f (get_or old i d) ≡ get_or old i d → p (get_or old i d) ≡ false
    → (first ≡ list_any p (take (i + 1) old)) × (now ≡ marked f (i + 1) old)
loop_passed f p old now i d first lt so_far is same other =
    let one : suc i ≡ i + 1 = omega arith in (
      so_far ∙ sym (any_more p old i d lt ∙ ap (λ b. list_any p (take i old) || b) other ∙ or-false (list_any p (take i old))) ∙ ap (λ k. list_any p (take k old)) one,
      is ∙ marked_stays f old i d lt same ∙ ap (λ k. marked f k old) one,
    )

-- ---- a list to which numbers are put

pub put_more : {X : Type 0} (f : ℕ → X) (old xs new : List X) (k : ℕ) → xs ≡ old ++ map f (numbers_from 1 k) → new ≡ xs ++ f (k + 1) ∷ [] → new ≡ old ++ map f (numbers_from 1 (k + 1))
put_more f old xs new k so_far is =
    let next : k + 1 ≡ 1 + k = omega arith in
    let one : suc k ≡ k + 1 = omega arith in
    is
    ∙ ap (λ ys. ys ++ f (k + 1) ∷ []) so_far
    ∙ append_assoc old (map f (numbers_from 1 k)) (f (k + 1) ∷ [])
    ∙ ap (λ m. old ++ (map f (numbers_from 1 k) ++ f m ∷ [])) next
    ∙ ap (λ ys. old ++ ys) (sym (map_end f (numbers_from 1 k) (1 + k)))
    ∙ ap (λ ms. old ++ map f ms) (sym (numbers_more 1 k))
    ∙ ap (λ m. old ++ map f (numbers_from 1 m)) one
  where
    map_end : {X Y : Type 0} (f : X → Y) (xs : List X) (x : X) → map f (xs ++ x ∷ []) ≡ map f xs ++ f x ∷ []
    map_end f [] x = refl
    map_end f (y ∷ ys) x = ap (λ zs. f y ∷ zs) (map_end f ys x)

-- what is left of a text without letters at its front
pub stripped : (letters text : List ℕ) (r : Option (Bor (List ℕ))) → MatchOption r (FindsTextPrefix letters text None) (λ x. StripsPrefix (FindsTextPrefix letters) text x.now)
    → option_map (λ t. t.now) r ≡ behind letters text
stripped letters text None lacks = sym (behind_none letters text lacks)
stripped letters text (Some x) strips =
    let n = strips.0 in
    let found = strips.1 in
    ap Some strips.2 ∙ sym (ap (behind letters) found.1 ∙ behind_front letters (drop n text))

-- ---- an event more, at one of the list

pub met_here : (has : ℕ → Bool) (k : SoughtReason) → k.is_met ≡ false → has k.number ≡ true → (record k { is_met = true } ≡ met_by has k) × (is_new_by has k ≡ true)
met_here has k away here = (ap (λ b. record k { is_met = b }) (sym (ap (λ b. b || has k.number) away ∙ here)), ap (λ b. not b && has k.number) away ∙ here)

pub address_met_here : (p : Option Passing) (k : SoughtAddress) → k.is_met ≡ false → has_address p k ≡ true → (record k { is_met = true } ≡ address_met p k) × (is_new_address p k ≡ true)
address_met_here p k away has = (ap (λ b. record k { is_met = b }) (sym (ap (λ b. b || has_address p k) away ∙ has)), ap (λ b. not b && has_address p k) away ∙ has)

-- one that is met already, or doesn't have it
passed_by : (m h : Bool) → (m ≡ true) ⊎ (h ≡ false) → ((m || h) ≡ m) × ((not m && h) ≡ false)
passed_by true h either = (refl, refl)
passed_by false true either = absurd (elim either [ inl e ↦ cc | inr e ↦ cc ])
passed_by false false either = (refl, refl)

pub reason_passed : (has : ℕ → Bool) (k : SoughtReason) → (k.is_met ≡ true) ⊎ (has k.number ≡ false) → (met_by has k ≡ k) × (is_new_by has k ≡ false)
reason_passed has k either =
    let both = passed_by k.is_met (has k.number) either in
    (ap (λ b. record k { is_met = b }) both.0, both.1)

pub address_passed : (p : Option Passing) (k : SoughtAddress) → (k.is_met ≡ true) ⊎ (has_address p k ≡ false) → (address_met p k ≡ k) × (is_new_address p k ≡ false)
address_passed p k either =
    let both = passed_by k.is_met (has_address p k) either in
    (ap (λ b. record k { is_met = b }) both.0, both.1)

-- ---- an address at each tap

pub taps_put : (place : ℕ) (address : List ℕ) (ports : List ℕ)
    → map (address_at place address) (map (λ port. Port port) ports ++ Underlay ∷ []) ≡ map (λ port. address_at place address (Port port)) ports ++ address_at place address Underlay ∷ []
taps_put place address [] = refl
taps_put place address (port ∷ ports) = ap (λ ks. address_at place address (Port port) ∷ ks) (taps_put place address ports)

-- ---- one name more is read

pub reasons_read : (names : List (Bor (List ℕ))) (i : ℕ) (d : Bor (List ℕ)) (before now : List SoughtReason) (asked : Reasons) → i < length names
    → before ≡ reasons_sought 0 (map (λ name. name.now) (take i names)) → asked ≡ reasons_in (get_or names i d).now → now ≡ before ++ map (reason_at i) (numbers_in asked)
    → now ≡ reasons_sought 0 (map (λ name. name.now) (take (i + 1) names))
reasons_read names i d before now asked lt so_far read put =
    put
    ∙ ap (λ ks. ks ++ map (reason_at i) (numbers_in asked)) so_far
    ∙ ap (λ r. reasons_sought 0 (map (λ name. name.now) (take i names)) ++ map (reason_at i) (numbers_in r)) read
    ∙ sym (reasons_next names i d lt)

pub addresses_read : (names : List (Bor (List ℕ))) (i : ℕ) (d : Bor (List ℕ)) (before now : List SoughtAddress) (asked : Option (List ℕ)) → i < length names
    → before ≡ addresses_sought 0 (map (λ name. name.now) (take i names)) → asked ≡ address_in (get_or names i d).now → now ≡ before ++ addresses_at i asked
    → now ≡ addresses_sought 0 (map (λ name. name.now) (take (i + 1) names))
addresses_read names i d before now asked lt so_far read put =
    put
    ∙ ap (λ ks. ks ++ addresses_at i asked) so_far
    ∙ ap (λ a. addresses_sought 0 (map (λ name. name.now) (take i names)) ++ addresses_at i a) read
    ∙ sym (addresses_next names i d lt)

-- ---- a reason or an address of the loop

pub reason_marked : (has : ℕ → Bool) (old now new : List SoughtReason) (i : ℕ) (d : SoughtReason) (first : Bool) → i < length old → now ≡ marked (met_by has) i old
    → (get_or now i d).is_met ≡ false → has (get_or now i d).number ≡ true → first ≡ true → new ≡ set now i (record (get_or now i d) { is_met = true })
    → (first ≡ list_any (is_new_by has) (take (i + 1) old)) × (new ≡ marked (met_by has) (i + 1) old)
reason_marked has old now new i d first lt is away this first_is new_is =
    let k = get_or old i d in
    let here : get_or now i d ≡ k = ap (λ ks. get_or ks i d) is ∙ marked_here (met_by has) old i d lt in
    let both = met_here has k (ap (λ (k : SoughtReason). k.is_met) (sym here) ∙ away) (ap (λ (k : SoughtReason). has k.number) (sym here) ∙ this) in
    let made : record (get_or now i d) { is_met = true } ≡ met_by has k = ap (λ (k : SoughtReason). record k { is_met = true }) here ∙ both.0 in
    let all = loop_met (met_by has) (is_new_by has) old now i d (record (get_or now i d) { is_met = true }) lt is made both.1 in
    (first_is ∙ all.0, new_is ∙ all.1)

pub reason_left : (has : ℕ → Bool) (old now new : List SoughtReason) (i : ℕ) (d : SoughtReason) (first next : Bool) → i < length old → first ≡ list_any (is_new_by has) (take i old)
    → now ≡ marked (met_by has) i old → ((get_or now i d).is_met ≡ true) ⊎ (has (get_or now i d).number ≡ false)
    → next ≡ first → new ≡ set now i (get_or now i d)
    → (next ≡ list_any (is_new_by has) (take (i + 1) old)) × (new ≡ marked (met_by has) (i + 1) old)
reason_left has old now new i d first next lt so_far is either next_is new_is =
    let k = get_or old i d in
    let here : get_or now i d ≡ k = ap (λ ks. get_or ks i d) is ∙ marked_here (met_by has) old i d lt in
    let both = reason_passed has k (subst (λ (k : SoughtReason). (k.is_met ≡ true) ⊎ (has k.number ≡ false)) here either) in
    let all = loop_passed (met_by has) (is_new_by has) old now i d first lt so_far is both.0 both.1 in
    (next_is ∙ all.0, new_is ∙ set_same now i d ∙ all.1)

pub address_marked : (p : Passing) (old now new : List SoughtAddress) (i : ℕ) (d : SoughtAddress) (first : Bool) → i < length old → now ≡ marked (address_met (Some p)) i old
    → (get_or now i d).is_met ≡ false → has_address (Some p) (get_or now i d) ≡ true → first ≡ true → new ≡ set now i (record (get_or now i d) { is_met = true })
    → (first ≡ list_any (is_new_address (Some p)) (take (i + 1) old)) × (new ≡ marked (address_met (Some p)) (i + 1) old)
address_marked p old now new i d first lt is away has first_is new_is =
    let k = get_or old i d in
    let here : get_or now i d ≡ k = ap (λ ks. get_or ks i d) is ∙ marked_here (address_met (Some p)) old i d lt in
    let both = address_met_here (Some p) k (ap (λ (k : SoughtAddress). k.is_met) (sym here) ∙ away) (ap (has_address (Some p)) (sym here) ∙ has) in
    let made : record (get_or now i d) { is_met = true } ≡ address_met (Some p) k = ap (λ (k : SoughtAddress). record k { is_met = true }) here ∙ both.0 in
    let all = loop_met (address_met (Some p)) (is_new_address (Some p)) old now i d (record (get_or now i d) { is_met = true }) lt is made both.1 in
    (first_is ∙ all.0, new_is ∙ all.1)

pub address_left : (p : Passing) (old now new : List SoughtAddress) (i : ℕ) (d : SoughtAddress) (first next : Bool) → i < length old → first ≡ list_any (is_new_address (Some p)) (take i old)
    → now ≡ marked (address_met (Some p)) i old → ((get_or now i d).is_met ≡ true) ⊎ (has_address (Some p) (get_or now i d) ≡ false)
    → next ≡ first → new ≡ set now i (get_or now i d)
    → (next ≡ list_any (is_new_address (Some p)) (take (i + 1) old)) × (new ≡ marked (address_met (Some p)) (i + 1) old)
address_left p old now new i d first next lt so_far is either next_is new_is =
    let k = get_or old i d in
    let here : get_or now i d ≡ k = ap (λ ks. get_or ks i d) is ∙ marked_here (address_met (Some p)) old i d lt in
    let both = address_passed (Some p) k (subst (λ (k : SoughtAddress). (k.is_met ≡ true) ⊎ (has_address (Some p) k ≡ false)) here either) in
    let all = loop_passed (address_met (Some p)) (is_new_address (Some p)) old now i d first lt so_far is both.0 both.1 in
    (next_is ∙ all.0, new_is ∙ set_same now i d ∙ all.1)

-- ---- the reasons of an event, marked by their numbers

-- nothing is marked
pub none_marked : (n : ℕ) → get_or (replicate 256 false) n false ≡ false
none_marked n =
    elim (cases_lt n 256) [
      | inl low ↦ get_or-replicate 256 n false false low
      | inr high ↦ get_or_past (replicate 256 false) n false (omega (arith, length-replicate {A = Bool} 256 false, high))
    ]

-- so what is marked then is just what an event has of which this is decided
marked_alone : (marks : List Bool) (d : Decision) → ((n : ℕ) → get_or marks n false ≡ (get_or (replicate 256 false) n false || is_for n d)) → (n : ℕ) → get_or marks n false ≡ is_for n d
marked_alone marks d told n = told n ∙ ap (λ (b : Bool). b || is_for n d) (none_marked n)

pub first_by_marks : (marks : List Bool) (d : Decision) (ks : List SoughtReason) → ((n : ℕ) → get_or marks n false ≡ (get_or (replicate 256 false) n false || is_for n d))
    → list_any (is_new_by (λ (n : ℕ). get_or marks n false)) ks ≡ list_any (is_new_reason (Some d)) ks
first_by_marks marks d [] told = refl
first_by_marks marks d (k ∷ ks) told = λ i. (not k.is_met && marked_alone marks d told k.number i) || first_by_marks marks d ks told i

pub met_by_marks : (marks : List Bool) (d : Decision) (ks : List SoughtReason) → ((n : ℕ) → get_or marks n false ≡ (get_or (replicate 256 false) n false || is_for n d))
    → map (met_by (λ (n : ℕ). get_or marks n false)) ks ≡ map (reason_met (Some d)) ks
met_by_marks marks d [] told = refl
met_by_marks marks d (k ∷ ks) told = λ i. record k { is_met = k.is_met || marked_alone marks d told k.number i } ∷ met_by_marks marks d ks told i

-- one number more is
pub one_marked : (marks : List Bool) (i n : ℕ) → i < length marks → get_or (set marks i true) n false ≡ (get_or marks n false || eqb i n)
one_marked marks i n inside = by (eqb i n) refl
  where
    or_true : (a : Bool) → (a || true) ≡ true
    or_true true = refl
    or_true false = refl

    by : (b : Bool) → eqb i n ≡ b → get_or (set marks i true) n false ≡ (get_or marks n false || b)
    by true is =
        ap (λ k. get_or (set marks i true) k false) (sym (eqb-true i n is)) ∙ get_or-set_same marks i true false inside ∙ sym (or_true (get_or marks n false))
    by false is = get_or-set_other marks i n true false (λ same. eqb-false i n is (sym same)) ∙ sym (or-false (get_or marks n false))

-- why nothing is sent is told by the length of what is
pub unsent_by_size : (sent : Result (List ℕ) Reason) → unsent (sizes sent) ≡ unsent sent
unsent_by_size (Ok octets) = refl
unsent_by_size (Err reason) = refl

-- where one more is marked
pub marked_one_more : {X : Type 0} (p : X → Bool) (xs : List X) (i : ℕ) (d : X) (old now new : Bool) → i < length xs → now ≡ (old || list_any p (take i xs)) → new ≡ (now || p (get_or xs i d))
    → new ≡ (old || list_any p (take (i + 1) xs))
marked_one_more p xs i d old now new lt so_far is =
    let one : suc i ≡ i + 1 = omega arith in
    is ∙ ap (λ b. b || p (get_or xs i d)) so_far ∙ assoc old (list_any p (take i xs)) (p (get_or xs i d)) ∙ ap (λ b. old || b) (sym (any_more p xs i d lt) ∙ ap (λ k. list_any p (take k xs)) one)
  where
    assoc : (a b c : Bool) → ((a || b) || c) ≡ (a || (b || c))
    assoc true b c = refl
    assoc false b c = refl

pub any_of_map : {X Y : Type 0} (p : Y → Bool) (f : X → Y) (xs : List X) → list_any (λ x. p (f x)) xs ≡ list_any p (map f xs)
any_of_map p f [] = refl
any_of_map p f (x ∷ xs) = ap (λ b. p (f x) || b) (any_of_map p f xs)
