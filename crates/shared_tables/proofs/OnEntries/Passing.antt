-- Going along the age queue of a segment, and letting go what stands at a place.
use Rattle.std.proofs.Common.{inl, inr, ◌≡◌, ℕ, ◌+◌, ◌<◌, ◌≤◌, Bool, true, false, ◌&&◌, List, [], ◌∷◌, ◌++◌, length, map, set, Option, Some, None, IsSome, IfSome, nat_eq, refl, sym, ap, ◌∙◌, subst, arith}
use Rattle.std.proofs.lemmas.List.{get_or-set_same, get_or-set_other, length-set, append-nil, append_assoc}
use Rattle.std.specs.Option.{option_map}
use Rattle.filter_db.specs.declared.place.Place.{Place}
use Rattle.filter_db.specs.Place.{same_place}
use Rattle.shared_tables.specs.Pool.{Held, tree_in}
use Rattle.shared_tables.specs.declared.links.Links.{Links}
use Rattle.shared_tables.specs.declared.share.Share.{Share}
use Rattle.shared_tables.specs.declared.shared_tables.SharedTables.TheInside.{Inside}
use Rattle.shared_tables.specs.Pool.{Pool, entry_at, links_at, alone, is_fixed_in}
use Rattle.shared_tables.specs.LinkSteps.{IsHeld, unlinked, ends_without, dropped}
use Rattle.shared_tables.specs.declared.threads.Ends.{Ends}
use Rattle.shared_tables.specs.Line.{first_of, is_on, IsThread}
use Rattle.shared_tables.specs.Shared.{line_key, KeepsOrDrops, stands_at}
use Rattle.shared_tables.specs.SlotsOfSegments.{share_at, shares_without, rule_of, IsSound}
use Rattle.shared_tables.specs.TreeColumns.{Trees, Uproots}
use Rattle.shared_tables.specs.TreesOfSlots.{AreTreesOf}
use Rattle.shared_tables.proofs.OnTrees.Uprooting.{uproot_trees}
use Rattle.shared_tables.proofs.OnEntries.Linked.{by_bool, equal, nat_eq_refl, on_behind, first_on, own_links, is_on-push, linked_frame, off_without}
use Rattle.shared_tables.proofs.OnEntries.Threaded.{thread_without, thread_links}
use Rattle.shared_tables.proofs.OnEntries.SoundLemmas.{holds, sound_at}
use Rattle.shared_tables.proofs.OnEntries.Entering.{and_right}
use Rattle.shared_tables.proofs.OnEntries.Sweeping.{of_ages}
use Rattle.shared_tables.proofs.OnEntries.Dropping.{Stays, stays, drop_sound, drop_rules, drop_share}

-- a learned entry of the segment at the place
abbrev pub seen_there : ℕ → Place → Option Held → Bool
seen_there v place e = line_key v false e && stands_at place e

-- of the part of the queue that was passed, what stood at the place has gone
pub record Passes (old now : Pool) (trees : Trees) (was shares : List (Option Share)) (moment v : ℕ) (place : Place) (cursor : Option ℕ) (steps count : ℕ) : Type 0 where
  pub sound : IsSound now.entries now.lines shares moment
  pub grown : AreTreesOf now.entries trees
  pub has : IsSome (share_at shares v)
  pub rules : map (option_map rule_of) shares ≡ map (option_map rule_of) was
  pub visited : now.visited ≡ old.visited
  pub size : length now.entries ≡ length old.entries
  pub each : (i : ℕ) → KeepsOrDrops (seen_there v place) (entry_at old.entries i) (entry_at now.entries i)
  pub done : List ℕ
  pub rest : List ℕ
  pub first : Option ℕ
  pub last : Option ℕ
  pub thread : IsThread now.lines now.entries (line_key v false) first last (done ++ rest)
  pub here : cursor ≡ first_of rest None
  pub passed : (i : ℕ) → is_on i done ≡ true → stands_at place (entry_at now.entries i) ≡ false
  pub few : steps + length rest ≤ count

pub pass_starts : (pool : Pool) (trees : Trees) (shares : List (Option Share)) (moment v : ℕ) (place : Place) (share : Share) → IsSound pool.entries pool.lines shares moment → AreTreesOf pool.entries trees → share_at shares v ≡ Some share
    → Passes pool pool trees shares shares moment v place share.queue.first 0 share.count
pass_starts pool trees shares moment v place share h grown here =
    let lines = h.lined v share here in
    record {
      sound = h;
      grown = grown;
      has = subst (λ (o : Option Share). IsSome o) (sym here) refl;
      rules = refl;
      visited = refl;
      size = refl;
      each = λ i. inl refl;
      done = [];
      rest = lines.list false;
      first = share.queue.first;
      last = share.queue.last;
      thread = lines.thread false;
      here = (lines.thread false).begins;
      passed = λ i on. let bad : false ≡ true = on in cc;
      few = omega (arith, lines.count);
    }

-- the slot at the cursor, and what stands behind it
pub record AtSlot (old now : Pool) (trees : Trees) (was shares : List (Option Share)) (moment v : ℕ) (place : Place) (slot steps count : ℕ) : Type 0 where
  pub whole : Passes old now trees was shares moment v place (Some slot) steps count
  pub behind : List ℕ
  pub rest_is : whole.rest ≡ slot ∷ behind

pub at_slot : (old now : Pool) (trees : Trees) (was shares : List (Option Share)) (moment v : ℕ) (place : Place) (slot steps count : ℕ) → Passes old now trees was shares moment v place (Some slot) steps count → AtSlot old now trees was shares moment v place slot steps count
at_slot old now trees was shares moment v place slot steps count w =
    let b = from w.rest w.here in record { whole = w; behind = b.0; rest_is = b.1 }
  where
    from : (rest : List ℕ) → Some slot ≡ first_of rest None → (behind : List ℕ) × (rest ≡ slot ∷ behind)
    from [] e = let bad : Some slot ≡ None = e in cc
    from (i ∷ rest) e = let q : i ≡ slot = (let p : Some slot ≡ Some i = e in cc) in (rest, ap (λ k. k ∷ rest) q)

-- whether an entry stands at a place, by where it stands
stands_is : (o : Option Held) (stands place : Place) (same : Bool) → IsSome o → IfSome o (λ e. stands ≡ e.place) → same ≡ same_place stands place → stands_at place o ≡ same
stands_is None stands place same some is e = let bad : false ≡ true = some in cc
stands_is (Some h) stands place same some is e = sym (e ∙ ap (λ p. same_place p place) is)

-- the same cursor
pub pass_to : {old now : Pool} {trees : Trees} {was shares : List (Option Share)} {moment v : ℕ} {place : Place} {cursor other : Option ℕ} {steps count : ℕ} → cursor ≡ other → Passes old now trees was shares moment v place cursor steps count
    → Passes old now trees was shares moment v place other steps count
pass_to {old} {now} {trees} {was} {shares} {moment} {v} {place} {cursor} {other} {steps} {count} e w = subst (λ (o : Option ℕ). Passes old now trees was shares moment v place o steps count) e w

module _ {old now : Pool} {trees : Trees} {was shares : List (Option Share)} {moment v : ℕ} {place : Place} {slot steps count : ℕ} (w : Passes old now trees was shares moment v place (Some slot) steps count) where
  abbrev a : AtSlot old now trees was shares moment v place slot steps count
  a = at_slot old now trees was shares moment v place slot steps count w

  thread : IsThread now.lines now.entries (line_key v false) a.whole.first a.whole.last (a.whole.done ++ slot ∷ a.behind)
  thread = subst (λ is. IsThread now.lines now.entries (line_key v false) a.whole.first a.whole.last (a.whole.done ++ is)) a.rest_is a.whole.thread

  on : is_on slot (a.whole.done ++ slot ∷ a.behind) ≡ true
  on = on_behind slot a.whole.done (slot ∷ a.behind) (first_on slot a.behind)

  pub pass_ages : line_key v false (entry_at now.entries slot) ≡ true
  pass_ages = sym (thread.members slot) ∙ on

  pub pass_held : IsHeld now.entries slot
  pass_held = holds (line_key v false) refl now.lines now.entries a.whole.first a.whole.last (a.whole.done ++ slot ∷ a.behind) thread slot on

  pub pass_stands : (there : Place) (same : Bool) → IfSome (entry_at now.entries slot) (λ e. there ≡ e.place) → same ≡ same_place there place → stands_at place (entry_at now.entries slot) ≡ same
  pass_stands there same is e = stands_is (entry_at now.entries slot) there place same pass_held.held is e

  pub pass_stays : Stays now.entries shares v slot
  pass_stays = stays now.entries shares v slot (of_ages v (entry_at now.entries slot) pass_ages) a.whole.has

  next_is : (links_at now.lines slot).next ≡ first_of a.behind None
  next_is = ap (λ (l : Links). l.next) (own_links now.lines slot a.whole.done a.behind thread.linked)

  fewer : steps + 1 + length a.behind ≤ count
  fewer = omega (arith, a.whole.few, ap length a.rest_is)

  -- its entry stands elsewhere
  pub pass_keep : stands_at place (entry_at now.entries slot) ≡ false → Passes old now trees was shares moment v place (links_at now.lines slot).next (steps + 1) count
  pass_keep elsewhere = record {
    sound = a.whole.sound;
    grown = a.whole.grown;
    has = a.whole.has;
    rules = a.whole.rules;
    visited = a.whole.visited;
    size = a.whole.size;
    each = a.whole.each;
    done = a.whole.done ++ slot ∷ [];
    rest = a.behind;
    first = a.whole.first;
    last = a.whole.last;
    thread = subst (λ is. IsThread now.lines now.entries (line_key v false) a.whole.first a.whole.last is) (sym (append_assoc a.whole.done (slot ∷ []) a.behind)) thread;
    here = next_is;
    passed = λ i there. by_bool (nat_eq i slot)
        (λ so. subst (λ n. stands_at place (entry_at now.entries n) ≡ false) (sym (equal i slot so)) elsewhere)
        (λ ne. a.whole.passed i (sym (is_on-push i slot a.whole.done ne) ∙ there));
    few = fewer;
  }

  other : (i : ℕ) → nat_eq i slot ≡ false → entry_at (set now.entries slot None) i ≡ entry_at now.entries i
  other i ne = get_or-set_other now.entries slot i None None (λ q. let yes : nat_eq i slot ≡ true = subst (λ n. nat_eq i n ≡ true) q (nat_eq_refl i) in let bad : true ≡ false = sym yes ∙ ne in cc)

  abbrev ends : Ends
  ends = ends_without (record { first = a.whole.first; last = a.whole.last }) (links_at now.lines slot)

  -- its entry goes
  pub pass_drop : stands_at place (entry_at now.entries slot) ≡ true → (now' : Pool) (trees' : Trees) (shares' : List (Option Share)) → now' ≡ dropped now slot → Uproots trees trees' (tree_in (entry_at now.entries slot)) slot
      → shares' ≡ shares_without shares v (is_fixed_in (entry_at now.entries slot)) (links_at now.lines slot) → Passes old now' trees' was shares' moment v place (links_at now.lines slot).next (steps + 1) count
  pass_drop there now' trees' shares' e uproots shares_are =
      subst (λ (p : Pool). Passes old p trees' was shares' moment v place (links_at now.lines slot).next (steps + 1) count) (sym e) (record {
        sound = sound_at moment refl refl shares_are (drop_sound now.entries now.lines shares moment a.whole.sound v slot pass_stays);
        grown = uproot_trees now.entries trees trees' a.whole.grown pass_stays.entry slot pass_stays.at_slot uproots;
        has = subst (λ (o : Option Share). IsSome o) (sym (ap (λ xs. share_at xs v) shares_are)) still;
        rules = ap (map (option_map rule_of)) shares_are ∙ drop_rules now.entries now.lines shares moment a.whole.sound v slot pass_stays ∙ a.whole.rules;
        visited = a.whole.visited;
        size = length-set now.entries slot None ∙ a.whole.size;
        each = λ i. by_bool (nat_eq i slot)
            (λ so. subst (λ n. KeepsOrDrops (seen_there v place) (entry_at old.entries n) (entry_at (set now.entries slot None) n)) (sym (equal i slot so)) (inr (get_or-set_same now.entries slot None None pass_held.in_pool, was_there (a.whole.each slot))))
            (λ ne. subst (λ x. KeepsOrDrops (seen_there v place) (entry_at old.entries i) x) (sym (other i ne)) (a.whole.each i));
        done = a.whole.done;
        rest = a.behind;
        first = ends.first;
        last = ends.last;
        thread = thread_links (line_key v false) refl (unlinked now.lines slot) (set (unlinked now.lines slot) slot alone) (set now.entries slot None) ends.first ends.last (a.whole.done ++ a.behind) left
            (linked_frame (unlinked now.lines slot) slot alone (a.whole.done ++ a.behind) None None (off_without slot a.whole.done a.behind thread.apart) left.linked);
        here = next_is;
        passed = λ i on_done. by_bool (nat_eq i slot)
            (λ so. subst (λ n. stands_at place (entry_at (set now.entries slot None) n) ≡ false) (sym (equal i slot so)) (ap (stands_at place) (get_or-set_same now.entries slot None None pass_held.in_pool)))
            (λ ne. ap (stands_at place) (other i ne) ∙ a.whole.passed i on_done);
        few = fewer;
      })
    where
      left : IsThread (unlinked now.lines slot) (set now.entries slot None) (line_key v false) ends.first ends.last (a.whole.done ++ a.behind)
      left = thread_without (line_key v false) refl now.lines now.entries a.whole.first a.whole.last slot None a.whole.sound.line_links pass_held.in_pool a.whole.done a.behind thread refl

      was_there : KeepsOrDrops (seen_there v place) (entry_at old.entries slot) (entry_at now.entries slot) → seen_there v place (entry_at old.entries slot) ≡ true
      was_there (inl q) = subst (λ x. seen_there v place x ≡ true) q (ap (λ b. b && stands_at place (entry_at now.entries slot)) pass_ages ∙ there)
      was_there (inr q) = let bad : false ≡ true = sym (ap (stands_at place) q.0) ∙ there in cc

      still : IsSome (share_at (shares_without shares v (is_fixed_in (entry_at now.entries slot)) (links_at now.lines slot)) v)
      still = drop_share now.entries now.lines shares moment a.whole.sound v slot pass_stays

-- the same of the fields that a loop has behind its step
pub pass_at : (old : Pool) (was : List (Option Share)) (v : ℕ) (place : Place) (i j : Inside) (cursor next : Option ℕ) (steps count : ℕ) → cursor ≡ next → i ≡ j → Passes old j.slots j.trees was j.shares.items j.moment v place next steps count
    → Passes old i.slots i.trees was i.shares.items i.moment v place cursor steps count
pass_at old was v place i j cursor next steps count q e w =
    pass_to (sym q) (subst (λ (x : Inside). Passes old x.slots x.trees was x.shares.items x.moment v place next steps count) (sym e) w)

-- nothing is left of the queue
pub pass_none : (old now : Pool) (trees : Trees) (was shares : List (Option Share)) (moment v : ℕ) (place : Place) (steps count : ℕ) → steps < count → Passes old now trees was shares moment v place None steps count → Passes old now trees was shares moment v place None (steps + 1) count
pass_none old now trees was shares moment v place steps count lt w = record {
  sound = w.sound;
  grown = w.grown;
  has = w.has;
  rules = w.rules;
  visited = w.visited;
  size = w.size;
  each = w.each;
  done = w.done;
  rest = w.rest;
  first = w.first;
  last = w.last;
  thread = w.thread;
  here = w.here;
  passed = w.passed;
  few = omega (arith, lt, none w.rest w.here);
}
  where
    none : (rest : List ℕ) → None ≡ first_of rest None → length rest ≡ 0
    none [] e = refl
    none (i ∷ rest) e = let bad : None ≡ Some i = e in cc

-- after as many steps as there are entries nothing is left
pub pass_ends : (old now : Pool) (trees : Trees) (was shares : List (Option Share)) (moment v : ℕ) (place : Place) (cursor : Option ℕ) (steps count : ℕ) → count ≤ steps → Passes old now trees was shares moment v place cursor steps count
    → (i : ℕ) → seen_there v place (entry_at now.entries i) ≡ false
pass_ends old now trees was shares moment v place cursor steps count le w i = by_bool (line_key v false (entry_at now.entries i))
    (λ so. and_right _ _ (w.passed i (on_done w.rest (omega (arith, le, w.few)) (w.thread.members i ∙ so))))
    (λ off. ap (λ b. b && stands_at place (entry_at now.entries i)) off)
  where
    on_done : (rest : List ℕ) → length rest ≤ 0 → is_on i (w.done ++ rest) ≡ true → is_on i w.done ≡ true
    on_done [] short there = subst (λ is. is_on i is ≡ true) (append-nil w.done) there
    on_done (k ∷ rest) short there = absurd (omega (arith, short))
