-- Letting the dead entries of a segment go, from the front of its queue.
use Rattle.std.proofs.Common.{inl, inr, ◌≡◌, ℕ, ◌+◌, ◌-◌, ◌<◌, ◌≤◌, Bool, true, false, not, ◌||◌, ◌&&◌, List, [], ◌∷◌, length, set, Option, Some, None, IsSome, IfNone, IfSome, nat_eq, nat_lt, refl, sym, ap, ◌∙◌, subst, arith, is_none}
use Rattle.std.proofs.lemmas.List.{get_or-set_same, get_or-set_other, length-set}
use Rattle.std.proofs.lemmas.List.Sums.{sum_by-set}
use Rattle.std.proofs.lemmas.Bool.Decides.{nat_tests}
use Rattle.shared_tables.specs.declared.links.Links.{Links}
use Rattle.shared_tables.specs.Pool.{Held}
use Rattle.shared_tables.specs.declared.share.Share.{Share}
use Rattle.filter_db.specs.declared.place.Place.{Place}
use Rattle.filter_db.specs.Table.{is_young}
use Rattle.shared_tables.specs.Pool.{entry_at, is_dead_in, renewed}
use Rattle.shared_tables.specs.Line.{first_of, is_on, weight}
use Rattle.shared_tables.specs.Shared.{Shared, line_key, last_at, last_in_entry, last_seen, NoneAges, IsOldest, Sweeps, KeepsOrFrees, IsOf, is_held, held_count, same_bool, Refreshes, Drops, KeepsOrDrops}
use Rattle.shared_tables.specs.SlotsOfSegments.{IsLines, IsAged}
use Rattle.shared_tables.proofs.OnEntries.Linked.{by_bool, equal, nat_eq_refl, first_on}
use Rattle.shared_tables.proofs.OnEntries.Threaded.{in_entries}

-- some dead entries of the segment have gone
pub record Frees (old new : Shared) (vid ageing : ℕ) : Type 0 where
  pub same : new ≡ record old { entries = new.entries; visited = new.visited }
  pub size : length new.entries ≡ length old.entries
  pub each : (i : ℕ) → KeepsOrFrees (entry_at old.entries i) (entry_at new.entries i) vid ageing old.moment
  pub paid : new.visited + held_count new.entries ≡ old.visited + held_count old.entries
  pub counted : old.visited ≤ new.visited

-- no entry of a queue was seen before the first
pub aged_least : (es : List (Option Held)) (is : List ℕ) (low high j : ℕ) → IsAged es low is high → is_on j is ≡ true → low ≤ last_at es j
aged_least es [] low high j h on = let bad : false ≡ true = on in cc
aged_least es (i ∷ is) low high j h on = from (nat_eq j i) refl (is_on j is) refl (aged_least es is (last_at es i) high j h.1)
  where
    from : (a : Bool) → nat_eq j i ≡ a → (b : Bool) → is_on j is ≡ b → (is_on j is ≡ true → last_at es i ≤ last_at es j) → low ≤ last_at es j
    from true p b q k = subst (λ n. low ≤ last_at es n) (sym (equal j i p)) h.0
    from false p true q k = omega (arith, h.0, k q)
    from false p false q k = let bad : false ≡ true = sym (ap (λ c. c || is_on j is) p ∙ q) ∙ on in cc

module _ (es : List (Option Held)) (ls : List Links) (v : ℕ) (share : Share) (moment : ℕ) (h : IsLines es ls v share moment) where
  pub oldest_none : share.queue.first ≡ None → NoneAges es v
  oldest_none e i = sym ((h.thread false).members i) ∙ at (h.list false) (sym (h.thread false).begins ∙ e) where
    at : (is : List ℕ) → first_of is None ≡ None → is_on i is ≡ false
    at [] q = refl
    at (k ∷ is) q = let bad : Some k ≡ None = q in cc

  pub oldest_some : (s : ℕ) → share.queue.first ≡ Some s → IsOldest es v s
  oldest_some s e = at (h.list false) (sym (h.thread false).begins ∙ e) h.aged (h.thread false).members
    where
      at : (is : List ℕ) → first_of is None ≡ Some s → IsAged es 0 is moment → ((i : ℕ) → is_on i is ≡ line_key v false (entry_at es i)) → IsOldest es v s
      at [] q a m = let bad : None ≡ Some s = q in cc
      at (k ∷ is) q a m =
          let same : k ≡ s = (let p : Some k ≡ Some s = q in cc) in
          record {
            ages = subst (λ n. line_key v false (entry_at es n) ≡ true) same (sym (m k) ∙ first_on k is);
            first = λ j on. subst (λ n. last_at es n ≤ last_at es j) same (aged_least es (k ∷ is) (last_at es k) moment j (omega arith, a.1) (m j ∙ on));
          }

-- the first slot of the queue, if there is one
pub oldest_if_none : (es : List (Option Held)) (ls : List Links) (v : ℕ) (share : Share) (moment : ℕ) → IsLines es ls v share moment → IfNone share.queue.first (NoneAges es v)
oldest_if_none es ls v share moment h = at share.queue.first (oldest_none es ls v share moment h) where
  at : (o : Option ℕ) → (o ≡ None → NoneAges es v) → IfNone o (NoneAges es v)
  at None k = k refl
  at (Some s) k = tt

pub oldest_if_some : (es : List (Option Held)) (ls : List Links) (v : ℕ) (share : Share) (moment : ℕ) → IsLines es ls v share moment → IfSome share.queue.first (IsOldest es v)
oldest_if_some es ls v share moment h = at share.queue.first (oldest_some es ls v share moment h) where
  at : (o : Option ℕ) → ((s : ℕ) → o ≡ Some s → IsOldest es v s) → IfSome o (IsOldest es v)
  at None k = tt
  at (Some s) k = k s refl

-- an entry that ages is of its segment
pub of_ages : (v : ℕ) (o : Option Held) → line_key v false o ≡ true → IsOf o v
of_ages v None h = let bad : false ≡ true = h in cc
of_ages v (Some e) h = equal e.vid v (first (nat_eq e.vid v) (same_bool false (is_none e.last)) h)
  where
    first : (a b : Bool) → a && b ≡ true → a ≡ true
    first true b h = refl
    first false b h = h

-- what ages and is dead was seen no later than what ages and lives
pub dead_of : (v : ℕ) (o : Option Held) (ageing now : ℕ) → line_key v false o ≡ true → is_dead_in o ageing now ≡ not (nat_lt (now - last_in_entry o) ageing)
dead_of v None ageing now h = let bad : false ≡ true = h in cc
dead_of v (Some e) ageing now h = at e.last (second (nat_eq e.vid v) (same_bool false (is_none e.last)) h)
  where
    second : (a b : Bool) → a && b ≡ true → b ≡ true
    second true b h = h
    second false b h = let bad : false ≡ true = h in cc

    at : (last : Option ℕ) → same_bool false (is_none last) ≡ true → not (is_young ageing now last) ≡ not (nat_lt (now - last_seen last) ageing)
    at None k = let bad : false ≡ true = k in cc
    at (Some last) k = refl

pub later_lives : (now a b ageing : ℕ) → a ≤ b → not (nat_lt (now - a) ageing) ≡ false → not (nat_lt (now - b) ageing) ≡ false
later_lives now a b ageing le h = grind (arith, nat_tests)

pub sweep_starts : (old : Shared) (v ageing : ℕ) → Frees old old v ageing
sweep_starts old v ageing = record { same = refl; size = refl; each = λ i. inl refl; paid = refl; counted = omega arith }

-- where the oldest lives, all that age do
pub sweep_ends : (old now : Shared) (v ageing s : ℕ) → Frees old now v ageing → IsOldest now.entries v s → is_dead_in (entry_at now.entries s) ageing old.moment ≡ false → (new : Shared) → new ≡ record now { visited = now.visited + 1 } → Sweeps old new v ageing
sweep_ends old now v ageing s f o lives new e =
    subst (λ w. Sweeps old w v ageing) (sym e) (record {
      same = ap (λ (w : Shared). record w { visited = now.visited + 1 }) f.same;
      size = f.size;
      each = f.each;
      live = λ i on. dead_of v (entry_at now.entries i) ageing old.moment on ∙ later_lives old.moment (last_at now.entries s) (last_at now.entries i) ageing (o.first i on) (sym (dead_of v (entry_at now.entries s) ageing old.moment o.ages) ∙ lives);
      paid = omega (arith, f.paid);
      counted = omega (arith, f.counted);
    })

-- where none ages, none that ages is dead
pub sweep_empty : (old now : Shared) (v ageing : ℕ) → Frees old now v ageing → NoneAges now.entries v → Sweeps old now v ageing
sweep_empty old now v ageing f none = record {
  same = f.same;
  size = f.size;
  each = f.each;
  live = λ i on. let bad : true ≡ false = sym on ∙ none i in cc;
  paid = omega (arith, f.paid);
  counted = f.counted;
}

-- the oldest is dead and goes
pub sweep_on : (old now : Shared) (v ageing s : ℕ) → Frees old now v ageing → IsOldest now.entries v s → is_dead_in (entry_at now.entries s) ageing old.moment ≡ true → (mid new : Shared) → mid ≡ record now { visited = now.visited + 1 } → new ≡ record mid { entries = set mid.entries s None } → Frees old new v ageing
sweep_on old now v ageing s f o dead mid new e k =
    let lt : s < length now.entries = in_entries (line_key v false) refl now.entries s o.ages in
    let new_is : new ≡ record now { entries = set now.entries s None; visited = now.visited + 1 } = k ∙ ap (λ (w : Shared). record w { entries = set w.entries s None }) e in
    subst (λ w. Frees old w v ageing) (sym new_is) (record {
      same = ap (λ (w : Shared). record w { entries = set now.entries s None; visited = now.visited + 1 }) f.same;
      size = length-set now.entries s None ∙ f.size;
      each = λ i. by_bool (nat_eq i s)
          (λ yes. subst (λ n. KeepsOrFrees (entry_at old.entries n) (entry_at (set now.entries s None) n) v ageing old.moment) (sym (equal i s yes))
          (let was = here (f.each s) in inr (get_or-set_same now.entries s None None lt, was.0, was.1)))
          (λ ne. subst (λ x. KeepsOrFrees (entry_at old.entries i) x v ageing old.moment) (sym (get_or-set_other now.entries s i None None (λ q. let yes : nat_eq i s ≡ true = subst (λ n. nat_eq i n ≡ true) q (nat_eq_refl i) in let bad : true ≡ false = sym yes ∙ ne in cc))) (f.each i));
      paid = omega (arith, f.paid, sum_by-set (weight is_held) now.entries s None None lt, held (entry_at now.entries s) o.ages);
      counted = omega (arith, f.counted);
    })
  where
    held : (x : Option Held) → line_key v false x ≡ true → weight is_held x ≡ 1
    held None h = let bad : false ≡ true = h in cc
    held (Some z) h = refl

    here : KeepsOrFrees (entry_at old.entries s) (entry_at now.entries s) v ageing old.moment → (line_key v false (entry_at old.entries s) ≡ true) × (is_dead_in (entry_at old.entries s) ageing old.moment ≡ true)
    here (inl q) = (subst (λ x. line_key v false x ≡ true) q o.ages, subst (λ x. is_dead_in x ageing old.moment ≡ true) q dead)
    here (inr q) = let bad : false ≡ true = sym (ap (line_key v false) q.0) ∙ o.ages in cc

-- a renewed entry leaves as many
pub refresh_held : (old new : Shared) (slot : ℕ) (place : Place) (last : Option ℕ) → slot < length old.entries → Refreshes old new slot place last → held_count new.entries ≡ held_count old.entries
refresh_held old new slot place last lt r =
    let all : held_count new.entries ≡ held_count (set old.entries slot (renewed (entry_at old.entries slot) place last)) = ap (λ (w : Shared). held_count w.entries) r in
    omega (arith, all, alike (entry_at old.entries slot), sum_by-set (weight is_held) old.entries slot (renewed (entry_at old.entries slot) place last) None lt)
  where
    alike : (o : Option Held) → weight is_held (renewed o place last) ≡ weight is_held o
    alike None = refl
    alike (Some e) = refl

-- ---- entries that pass a test go

pub drop_starts : (old : Shared) (test : Option Held → Bool) → Drops old old test
drop_starts old test = record { same = refl; size = refl; each = λ i. inl refl }

pub drop_on : (old now : Shared) (test : Option Held → Bool) (s : ℕ) → Drops old now test → test None ≡ false → test (entry_at now.entries s) ≡ true → (new : Shared) → new ≡ record now { entries = set now.entries s None } → Drops old new test
drop_on old now test s d none passes new e =
    let lt : s < length now.entries = in_entries test none now.entries s passes in
    subst (λ w. Drops old w test) (sym e) (record {
      same = ap (λ (w : Shared). record w { entries = set now.entries s None }) d.same;
      size = length-set now.entries s None ∙ d.size;
      each = λ i. by_bool (nat_eq i s)
          (λ yes. subst (λ n. KeepsOrDrops test (entry_at old.entries n) (entry_at (set now.entries s None) n)) (sym (equal i s yes)) (inr (get_or-set_same now.entries s None None lt, here (d.each s))))
          (λ ne. subst (λ x. KeepsOrDrops test (entry_at old.entries i) x) (sym (get_or-set_other now.entries s i None None (λ q. let yes : nat_eq i s ≡ true = subst (λ n. nat_eq i n ≡ true) q (nat_eq_refl i) in let bad : true ≡ false = sym yes ∙ ne in cc))) (d.each i));
    })
  where
    here : KeepsOrDrops test (entry_at old.entries s) (entry_at now.entries s) → test (entry_at old.entries s) ≡ true
    here (inl q) = subst (λ x. test x ≡ true) q passes
    here (inr q) = let bad : false ≡ true = sym none ∙ ap test (sym q.0) ∙ passes in cc

-- one fewer is kept
pub held_less : (es : List (Option Held)) (s : ℕ) → s < length es → IsSome (entry_at es s) → held_count (set es s None) + 1 ≡ held_count es
held_less es s lt some = omega (arith, sum_by-set (weight is_held) es s None None lt, one (entry_at es s) some)
  where
    one : (o : Option Held) → IsSome o → weight is_held o ≡ 1
    one None h = let bad : false ≡ true = h in cc
    one (Some z) h = refl
