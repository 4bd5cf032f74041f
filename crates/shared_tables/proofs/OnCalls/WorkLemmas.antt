-- The work that a call does.
use Rattle.std.proofs.Common.{suc, inl, inr, ◌⊎◌, ◌≡◌, ℕ, ◌+◌, ◌-◌, ◌<◌, ◌≤◌, Bool, true, false, cond, not, List, [], ◌∷◌, length, set, Option, Some, None, IsSome, nat_eq, refl, sym, ap, ◌∙◌, subst, arith}
use Rattle.std.proofs.lemmas.Bool.{lt-ltb}
use Rattle.std.proofs.lemmas.List.Sums.{sum_by-set, sum_by-cons}
use Rattle.filter_db.specs.declared.place.Place.{Place}
use Rattle.filter_db.specs.declared.tables.Learned.{Learned}
use Rattle.shared_tables.specs.Pool.{Held}
use Rattle.shared_tables.specs.Pool.{entry_at, IfHeld, is_dead_in, is_fixed_in, renewed}
use Rattle.shared_tables.specs.Line.{weight}
use Rattle.shared_tables.specs.Shared.{Shared, Rule, rule_at, span_of, is_held, held_count, HasRoom, IsAtLimit, kept_count, Sweeps, KeepsOrFrees, Enters, Lacks, Refreshes, Admits, Relearns}
use Rattle.shared_tables.specs.Work.{is_dead, dead_count, VisitsFew, TellsAtMost, IsPaid, PaysForAllWork}
use Rattle.shared_tables.proofs.OnEntries.Linked.{by_bool, equal}
use Rattle.shared_tables.proofs.OnEntries.Entering.{and_first}
use Rattle.shared_tables.proofs.OnCalls.Tabled.{renewed_is}
use Rattle.shared_tables.specs.Segments.{segments_of}
use Rattle.shared_tables.proofs.OnCalls.CallLemmas.{Begins, span_is, some_time}

-- dead entries that have gone are no longer dead
fewer_dead : (rules : List (Option Rule)) (now v : ℕ) (es es' : List (Option Held)) → length es' ≡ length es → ((i : ℕ) → KeepsOrFrees (entry_at es i) (entry_at es' i) v (span_of (rule_at rules v)) now)
    → held_count es + dead_count rules now es' ≤ dead_count rules now es + held_count es'
fewer_dead rules now v [] [] n k = omega arith
fewer_dead rules now v [] (o' ∷ es') n k = absurd (omega (arith, n))
fewer_dead rules now v (o ∷ es) [] n k = absurd (omega (arith, n))
fewer_dead rules now v (o ∷ es) (o' ∷ es') n k =
    let rest = fewer_dead rules now v es es' (omega (arith, n)) (λ i. k (suc i)) in
    let first = one o (k 0) in
    omega (arith, rest, first, sum_by-cons (weight is_held) o es, sum_by-cons (weight is_held) o' es', sum_by-cons (weight (is_dead rules now)) o es, sum_by-cons (weight (is_dead rules now)) o' es')
  where
    one : (o : Option Held) → KeepsOrFrees o o' v (span_of (rule_at rules v)) now → weight is_held o + weight (is_dead rules now) o' ≤ weight (is_dead rules now) o + weight is_held o'
    one o (inl e) = omega (arith, ap (weight is_held) e, ap (weight (is_dead rules now)) e)
    one None (inr h) = let bad : false ≡ true = h.1 in cc
    one (Some e) (inr h) =
        let of : e.vid ≡ v = equal e.vid v (and_first (nat_eq e.vid v) _ h.1) in
        let dead : is_dead rules now (Some e) ≡ true = ap (λ n. is_dead_in (Some e) (span_of (rule_at rules n)) now) of ∙ h.2 in
        let counts : weight (is_dead rules now) (Some e) ≡ 1 = ap (λ (c : Bool). let r : ℕ = cond c 1 0 in r) dead in
        let gone : weight (is_dead rules now) o' ≡ 0 = ap (weight (is_dead rules now)) h.0 in
        let went : weight is_held o' ≡ 0 = ap (weight is_held) h.0 in
        omega (arith, counts, gone, went)

-- what a step visits, and what it leaves dead
abbrev pub Visits : Shared → Shared → Type 0
Visits f new = new.visited + dead_count f.rules f.moment new.entries ≤ f.visited + dead_count f.rules f.moment f.entries + 1

pub swept_visits : (f mid : Shared) (v : ℕ) → Sweeps f mid v (span_of (rule_at f.rules v)) → Visits f mid
swept_visits f mid v h = let fewer = fewer_dead f.rules f.moment v f.entries mid.entries h.size h.each in let paid = h.paid in omega (arith, fewer, paid)

-- a slot whose entry isn't dead
entered_dead : (rules : List (Option Rule)) (now : ℕ) (es : List (Option Held)) (s : ℕ) (o : Option Held) → s < length es → is_dead rules now o ≡ false → dead_count rules now (set es s o) ≤ dead_count rules now es
entered_dead rules now es s o lt lives =
    let none : weight (is_dead rules now) o ≡ 0 = ap (λ (c : Bool). let r : ℕ = cond c 1 0 in r) lives in
    let sums = sum_by-set (weight (is_dead rules now)) es s o None lt in
    omega (arith, none, sums)

pub admit_visits : (f new : Shared) (v : ℕ) (e : Held) (answer : Bool) → is_dead f.rules f.moment (Some e) ≡ false → Admits f new v (span_of (rule_at f.rules v)) e answer → Visits f new
admit_visits f new v e answer lives h = from h.done
  where
    from : ((answer ≡ false) × (new ≡ h.mid) × IsAtLimit (rule_at h.mid.rules v) (kept_count v h.mid.entries)) ⊎ ((answer ≡ true) × HasRoom (rule_at h.mid.rules v) (kept_count v h.mid.entries) × Enters h.mid new e) → Visits f new
    from (inl d) = subst (Visits f) (sym d.1) (swept_visits f h.mid v h.swept)
    from (inr d) =
        let swept = swept_visits f h.mid v h.swept in
        let fewer = entered_dead f.rules f.moment h.mid.entries d.2.slot (Some e) d.2.in_pool lives in
        omega (arith, swept, fewer, ap (λ (w : Shared). w.visited) d.2.same, ap (λ (w : Shared). dead_count f.rules f.moment w.entries) d.2.same)

refresh_dead : (rules : List (Option Rule)) (now : ℕ) (old new : Shared) (slot v : ℕ) (mac : List ℕ) (place : Place) (last : Option ℕ) → slot < length old.entries → IfHeld (entry_at old.entries slot) v mac
    → is_dead rules now (Some (record { vid = v; mac = mac; place = place; last = last })) ≡ false → Refreshes old new slot place last → dead_count rules now new.entries ≤ dead_count rules now old.entries
refresh_dead rules now old new slot v mac place last lt held lives r =
    let fewer = entered_dead rules now old.entries slot (renewed (entry_at old.entries slot) place last) lt (ap (is_dead rules now) (renewed_is (entry_at old.entries slot) v mac place last held) ∙ lives) in
    omega (arith, fewer, ap (λ (w : Shared). dead_count rules now w.entries) r)

pub refresh_visits : (f new : Shared) (slot v : ℕ) (mac : List ℕ) (place : Place) → slot < length f.entries → IfHeld (entry_at f.entries slot) v mac → Refreshes f new slot place None → Visits f new
refresh_visits f new slot v mac place lt held r = let fewer = refresh_dead f.rules f.moment f new slot v mac place None lt held refl r in omega (arith, fewer, ap (λ (w : Shared). w.visited) r)

pub relearn_visits : (f new : Shared) (slot ageing v : ℕ) (mac : List ℕ) (place : Place) (answer : Learned) → slot < length f.entries → IfHeld (entry_at f.entries slot) v mac
    → is_dead f.rules f.moment (Some (record { vid = v; mac = mac; place = place; last = Some f.moment })) ≡ false → Relearns f new slot ageing place answer → Visits f new
relearn_visits f new slot ageing v mac place answer lt held lives h = by_bool (is_fixed_in (entry_at f.entries slot))
    (λ so. subst (Visits f) (sym (h.stays so).1) (omega arith))
    (λ ages. let r = h.moves ages in
    let fewer = refresh_dead f.rules f.moment (record f { visited = f.visited + 1 }) new slot v mac place (Some f.moment) lt held lives r in
    omega (arith, fewer, ap (λ (w : Shared). w.visited) r))

-- one age is told where the address stands, and none where it has to be fixed
relearn_tells : (f new : Shared) (slot ageing : ℕ) (place : Place) (answer : Learned) → Relearns f new slot ageing place answer → new.visited ≤ f.visited + 1
relearn_tells f new slot ageing place answer h = by_bool (is_fixed_in (entry_at f.entries slot))
    (λ so. omega (arith, ap (λ (w : Shared). w.visited) (h.stays so).1))
    (λ ages. omega (arith, ap (λ (w : Shared). w.visited) (h.moves ages)))

pub learn_tells : (old f new : Shared) (now v : ℕ) (mac : List ℕ) (slot ageing : ℕ) (place : Place) (answer : Learned) → Begins old f now → Relearns f new slot ageing place answer → TellsAtMost 1 old new v mac
learn_tells old f new now v mac slot ageing place answer k h at held = omega (arith, relearn_tells f new slot ageing place answer h, k.visited)

pub fix_tells : (old f new : Shared) (now v : ℕ) (mac : List ℕ) (slot : ℕ) (place : Place) (last : Option ℕ) → Begins old f now → Refreshes f new slot place last → TellsAtMost 0 old new v mac
fix_tells old f new now v mac slot place last k h at held = omega (arith, ap (λ (w : Shared). w.visited) h, k.visited)

pub none_tells : (few : ℕ) (old f new : Shared) (now v : ℕ) (mac : List ℕ) → Begins old f now → Lacks f.entries v mac → TellsAtMost few old new v mac
none_tells few old f new now v mac k lacks at held = absurd (lacks at (subst (λ es. IfHeld (entry_at es at) v mac) (sym k.entries) held))

-- from the state that a call finds
pub visits_of : (old f new : Shared) (now : ℕ) → Begins old f now → Visits f new → VisitsFew old new now
visits_of old f new now k h =
    let before : dead_count f.rules f.moment f.entries ≡ dead_count old.rules now old.entries = ap (λ rs. dead_count rs f.moment f.entries) k.rules ∙ ap (λ t. dead_count old.rules t f.entries) k.moment ∙ ap (dead_count old.rules now) k.entries in
    let behind : dead_count f.rules f.moment new.entries ≡ dead_count old.rules now new.entries = ap (λ rs. dead_count rs f.moment new.entries) k.rules ∙ ap (λ t. dead_count old.rules t new.entries) k.moment in
    omega (arith, h, before, behind, k.visited)

-- an entry that is seen now isn't dead
seen_lives : (f : Shared) (v : ℕ) (mac : List ℕ) (place : Place) → 0 < span_of (rule_at f.rules v) → is_dead f.rules f.moment (Some (record { vid = v; mac = mac; place = place; last = Some f.moment })) ≡ false
seen_lives f v mac place some_time = ap not (lt-ltb (f.moment - f.moment) (span_of (rule_at f.rules v)) (omega (arith, some_time)))

-- nor is one that is seen in a call
module _ (old f : Shared) (now v : ℕ) (k : Begins old f now) (le : old.moment ≤ now) (has : IsSome (segments_of old v)) (mac : List ℕ) (place : Place) where
  pub seen_now : is_dead f.rules f.moment (Some (record { vid = v; mac = mac; place = place; last = Some f.moment })) ≡ false
  seen_now = seen_lives f v mac place (subst (λ n. 0 < n) (sym (span_is old f now v k le has)) (some_time old f now v k le has))

  pub learned_now : is_dead f.rules f.moment (Some (record { vid = v; mac = mac; place = place; last = Some now })) ≡ false
  learned_now = subst (λ t. is_dead f.rules f.moment (Some (record { vid = v; mac = mac; place = place; last = Some t })) ≡ false) k.moment seen_now

-- ---- any number of calls

pub paid_by_calls : PaysForAllWork
paid_by_calls s [] paid calls = tt
paid_by_calls s (t ∷ ts) paid calls = let now : IsPaid t = omega (arith, paid, calls.0, calls.1) in (now, paid_by_calls t ts now calls.2)
