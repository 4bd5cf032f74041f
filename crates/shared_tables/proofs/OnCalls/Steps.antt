-- What a step within a call leaves, and what the call leaves by it.
use Rattle.std.proofs.Common.{inl, inr, ◌⊎◌, ◌≡◌, ℕ, ◌+◌, ◌<◌, ◌≤◌, Bool, true, false, List, length, set, Option, Some, None, refl, sym, ap, ◌∙◌, subst, arith}
use Rattle.std.proofs.lemmas.List.{length-set}
use Rattle.std.proofs.lemmas.List.Sums.{sum_by-set}
use Rattle.filter_db.specs.declared.place.Place.{Place}
use Rattle.filter_db.specs.declared.tables.Learned.{Learned}
use Rattle.shared_tables.specs.Pool.{Held, entry_at, is_fixed_in, renewed}
use Rattle.shared_tables.specs.LinkSteps.{IsHeld}
use Rattle.shared_tables.specs.Line.{weight}
use Rattle.shared_tables.specs.Shared.{Shared, Rule, rule_at, vid_key, is_held, held_count, HasRoom, IsAtLimit, kept_count, Sweeps, Drops, Enters, Refreshes, Admits, Relearns}
use Rattle.shared_tables.specs.Work.{ComparesFew, ComparesByBits, Pays}
use Rattle.shared_tables.proofs.OnEntries.Linked.{by_bool}
use Rattle.shared_tables.proofs.OnEntries.Sweeping.{refresh_held}
use Rattle.shared_tables.proofs.OnCalls.CallLemmas.{Begins, Searches}
use Rattle.shared_tables.proofs.OnCalls.WorkLemmas.{Visits}
use Rattle.shared_tables.proofs.OnCalls.StandingLemmas.{held_fewer, Fits_in, fit_cases, fit_visited, fit_dead}

-- a step leaves the moment, what was counted of calls and comparisons, and the slots; it pays for what it visits
pub record IsStep (f new : Shared) : Type 0 where
  pub moment : new.moment ≡ f.moment
  pub calls : new.calls ≡ f.calls
  pub compared : new.compared ≡ f.compared
  pub slots : length new.entries ≡ length f.entries
  pub counted : f.visited ≤ new.visited
  pub pays : Pays f new

-- ---- the steps

-- nothing is done
pub still : (f : Shared) → IsStep f f
still f = record { moment = refl; calls = refl; compared = refl; slots = refl; counted = omega arith; pays = omega arith }

pub sweep_step : (f new : Shared) (v ageing : ℕ) → Sweeps f new v ageing → IsStep f new
sweep_step f new v ageing h = record {
  moment = ap (λ (w : Shared). w.moment) h.same;
  calls = ap (λ (w : Shared). w.calls) h.same;
  compared = ap (λ (w : Shared). w.compared) h.same;
  slots = h.size;
  counted = h.counted;
  pays = let paid = h.paid in omega (arith, paid);
}

-- a new entry is one more that is kept
entered_held : (es : List (Option Held)) (slot : ℕ) (e : Held) → slot < length es → held_count (set es slot (Some e)) ≤ held_count es + 1
entered_held es slot e lt = let sums = sum_by-set (weight is_held) es slot (Some e) None lt in omega (arith, sums)

pub admit_step : (f new : Shared) (v ageing : ℕ) (e : Held) (answer : Bool) → Admits f new v ageing e answer → IsStep f new
admit_step f new v ageing e answer h = from h.done
  where
    swept : IsStep f h.mid
    swept = sweep_step f h.mid v ageing h.swept

    from : ((answer ≡ false) × (new ≡ h.mid) × IsAtLimit (rule_at h.mid.rules v) (kept_count v h.mid.entries)) ⊎ ((answer ≡ true) × HasRoom (rule_at h.mid.rules v) (kept_count v h.mid.entries) × Enters h.mid new e) → IsStep f new
    from (inl d) = subst (IsStep f) (sym d.1) swept
    from (inr d) =
        let paid = h.swept.paid in let more = entered_held h.mid.entries d.2.slot e d.2.in_pool in
        subst (IsStep f) (sym d.2.same) (record {
          moment = swept.moment;
          calls = swept.calls;
          compared = swept.compared;
          slots = length-set h.mid.entries d.2.slot (Some e) ∙ swept.slots;
          counted = swept.counted;
          pays = omega (arith, paid, more);
        })

-- an entry is renewed, after at most one age was told
renew_step : (told : ℕ) (f new : Shared) (slot : ℕ) (place : Place) (last : Option ℕ) → told ≤ 1 → IsHeld f.entries slot → Refreshes (record f { visited = f.visited + told }) new slot place last → IsStep f new
renew_step told f new slot place last few held r =
    let visited : new.visited ≡ f.visited + told = ap (λ (w : Shared). w.visited) r in
    let kept = refresh_held (record f { visited = f.visited + told }) new slot place last held.in_pool r in
    record {
      moment = ap (λ (w : Shared). w.moment) r;
      calls = ap (λ (w : Shared). w.calls) r;
      compared = ap (λ (w : Shared). w.compared) r;
      slots = ap (λ (w : Shared). length w.entries) r ∙ length-set f.entries slot (renewed (entry_at f.entries slot) place last);
      counted = omega (arith, visited);
      pays = omega (arith, kept, visited, few);
    }

pub refresh_step : (f new : Shared) (slot : ℕ) (place : Place) (last : Option ℕ) → IsHeld f.entries slot → Refreshes f new slot place last → IsStep f new
refresh_step f new slot place last held r =
    let same : f.visited ≡ f.visited + 0 = omega arith in
    renew_step 0 f new slot place last (omega arith) held (subst (λ n. Refreshes (record f { visited = n }) new slot place last) same r)

pub relearn_step : (f new : Shared) (slot ageing : ℕ) (place : Place) (answer : Learned) → IsHeld f.entries slot → Relearns f new slot ageing place answer → IsStep f new
relearn_step f new slot ageing place answer held h = by_bool (is_fixed_in (entry_at f.entries slot))
    (λ so. subst (IsStep f) (sym (h.stays so).1) (still f))
    (λ ages. renew_step 1 f new slot place (Some f.moment) (omega arith) held (h.moves ages))

pub release_step : (f new : Shared) (slot : ℕ) → slot < length f.entries → new ≡ record f { entries = set f.entries slot None } → IsStep f new
release_step f new slot lt e =
    let sums = sum_by-set (weight is_held) f.entries slot None None lt in
    subst (IsStep f) (sym e) (record { moment = refl; calls = refl; compared = refl; slots = length-set f.entries slot None; counted = omega arith; pays = omega (arith, sums) })

-- entries go that pass a test
pub then_drop : (f mid new : Shared) (test : Option Held → Bool) → IsStep f mid → Drops mid new test → IsStep f new
then_drop f mid new test s h =
    let visited : new.visited ≡ mid.visited = ap (λ (w : Shared). w.visited) h.same in
    let fewer = held_fewer mid new test h in let paid = s.pays in
    record {
      moment = ap (λ (w : Shared). w.moment) h.same ∙ s.moment;
      calls = ap (λ (w : Shared). w.calls) h.same ∙ s.calls;
      compared = ap (λ (w : Shared). w.compared) h.same ∙ s.compared;
      slots = h.size ∙ s.slots;
      counted = omega (arith, s.counted, visited);
      pays = omega (arith, paid, fewer, visited);
    }

pub drop_step : (f new : Shared) (test : Option Held → Bool) → Drops f new test → IsStep f new
drop_step f new test h = then_drop f f new test (still f) h

-- a segment's entries go if there are more than a limit
pub fit_step : (f mid new : Shared) (v limit : ℕ) → Fits_in mid new v limit → IsStep f mid → IsStep f new
fit_step f mid new v limit h s = fit_cases mid new v limit h (IsStep f) (λ few. s) (λ over d. then_drop f mid new (vid_key v) s d.some)

pub fit_visits : (f mid new : Shared) (v limit : ℕ) → Fits_in mid new v limit → Visits f mid → Visits f new
fit_visits f mid new v limit h visits = omega (arith, visits, fit_visited mid new v limit h, fit_dead mid new v limit h f.rules f.moment)

-- another rule makes no difference
pub ruled_step : (f mid new : Shared) (rules : List (Option Rule)) → IsStep f mid → new ≡ record mid { rules = rules } → IsStep f new
ruled_step f mid new rules s e = subst (IsStep f) (sym e) (record { moment = s.moment; calls = s.calls; compared = s.compared; slots = s.slots; counted = s.counted; pays = s.pays })

-- ---- the call

-- what each call leaves
pub record Leaves (old new : Shared) (now : ℕ) : Type 0 where
  pub moment : new.moment ≡ now
  pub calls : new.calls ≡ old.calls + 1
  pub pool : length new.entries ≡ length old.entries
  pub counted : old.visited ≤ new.visited
  pub paid : Pays old new

pub leaves : (old f new : Shared) (now : ℕ) → Begins old f now → IsStep f new → Leaves old new now
leaves old f new now k s =
    let pays = s.pays in
    record {
      moment = s.moment ∙ k.moment;
      calls = s.calls ∙ k.calls;
      pool = s.slots ∙ ap length k.entries;
      counted = omega (arith, s.counted, k.visited);
      paid = omega (arith, pays, k.visited, ap held_count k.entries);
    }

-- and what one leaves that looked for an address
pub record LeavesSearched (old new : Shared) (now v : ℕ) (mac : List ℕ) : Type 0 where
  pub left : Leaves old new now
  pub compared : ComparesFew old new v mac
  pub bits : ComparesByBits old new
  pub counted : old.compared ≤ new.compared

pub leaves_searched : (old f new : Shared) (now v : ℕ) (mac : List ℕ) → Searches old f now v mac → IsStep f new → LeavesSearched old new now v mac
leaves_searched old f new now v mac k s = record {
  left = leaves old f new now k.begun s;
  compared = (let few = k.compared in omega (arith, few, s.compared));
  bits = (let bits = k.bits in omega (arith, bits, s.compared));
  counted = omega (arith, k.counted, s.compared);
}
