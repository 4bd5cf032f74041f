-- What an entry that comes, or doesn't, makes of the tables.
use Rattle.std.proofs.Common.{inl, inr, ◌≡◌, ◌≢◌, ℕ, zero, suc, ◌+◌, ◌<◌, ◌≤◌, Bool, true, false, not, cond, List, [], ◌∷◌, length, map, set, Option, Some, None, IsSome, nat_eq, refl, sym, ap, ◌∙◌, subst, arith}
use Rattle.std.proofs.lemmas.List.{length-set, set-set}
use Rattle.std.proofs.lemmas.List.Sums.{sum_by-set, sum_by-cons}
use Rattle.std.proofs.lemmas.Bool.Decides.{nat_tests}
use Rattle.std.specs.Option.{option_map}
use Rattle.std.specs.List.{sum_by}
use Rattle.filter_db.specs.Table.{is_young, nanoseconds}
use Rattle.shared_tables.specs.declared.share.Share.{Share}
use Rattle.shared_tables.specs.declared.admission.Newcomer.{Newcomer}
use Rattle.shared_tables.specs.declared.admission.Outcome.{Outcome}
use Rattle.shared_tables.specs.declared.admission.Outcome.TheVariants as outcome
use Rattle.shared_tables.specs.Admission.{held_of, ComesOrNot, ComesTo, FindsOrAdmits}
use Rattle.shared_tables.specs.Pool.{Pool, Held, entry_at, is_dead_in}
use Rattle.shared_tables.specs.Line.{weight}
use Rattle.shared_tables.specs.Shared.{Shared, Rule, rule_at, kept_count, vid_key, HasRoom, IsAtLimit, IsNow, Lacks, span_of, Enters, line_key, IsOldest, Sweeps, Admits, KeepsOrFrees, is_held, held_count}
use Rattle.shared_tables.specs.SlotsOfSegments.{IsSound, share_at, rule_of}
use Rattle.shared_tables.specs.WholePool.{seen, Refuses, Makes}
use Rattle.shared_tables.specs.LinkSteps.{IsHeld}
use Rattle.shared_tables.proofs.OnEntries.Linked.{by_bool, equal}
use Rattle.shared_tables.proofs.OnEntries.Threaded.{on_line_held}
use Rattle.shared_tables.proofs.OnEntries.SoundLemmas.{rule_is, kept_is, has_share, IsShare}
use Rattle.shared_tables.proofs.OnEntries.Sweeping.{Frees, sweep_starts, sweep_ends, sweep_on, oldest_none, oldest_some}
use Rattle.shared_tables.proofs.OnTrees.TreesOfLemmas.{apart, entry_same, entry_other}

-- ---- what the share of a segment tells

module _ (pool : Pool) (shares : List (Option Share)) (moment v : ℕ) (h : IsSound pool.entries pool.lines shares moment) (share : Share) (here : share_at shares v ≡ Some share) where
  rule_here : rule_at (map (option_map rule_of) shares) v ≡ Some (rule_of share)
  rule_here = rule_is shares v share here

  pub has_room : share.count < share.limit → HasRoom (rule_at (map (option_map rule_of) shares) v) (kept_count v pool.entries)
  has_room lt = subst (λ o. HasRoom o (kept_count v pool.entries)) (sym rule_here) (omega (arith, lt, kept_is pool.entries pool.lines v share moment (h.lined v share here)))

  at_limit : share.limit ≤ share.count → IsAtLimit (rule_at (map (option_map rule_of) shares) v) (kept_count v pool.entries)
  at_limit le = subst (λ o. IsAtLimit o (kept_count v pool.entries)) (sym rule_here) (omega (arith, le, kept_is pool.entries pool.lines v share moment (h.lined v share here)))

  pub span_here : span_of (rule_at (map (option_map rule_of) shares) v) ≡ nanoseconds share.ageing
  span_here = ap span_of rule_here

  pub some_span : 0 < span_of (rule_at (map (option_map rule_of) shares) v)
  some_span = subst (λ n. 0 < n) (sym span_here) (omega (arith, (h.lined v share here).some_time))

  -- the segment has no learned entry
  pub refuses_none : (calls compared ageing : ℕ) → share.limit ≤ share.count → share.queue.first ≡ None → Refuses (seen pool shares moment calls compared) (seen pool shares moment calls compared) v ageing
  refuses_none calls compared ageing le none =
      let ages = oldest_none pool.entries pool.lines v share moment (h.lined v share here) none in
      record {
        same = refl;
        live = λ i on. let bad : true ≡ false = sym on ∙ ages i in cc;
        full = at_limit le;
        few = omega arith;
        counted = omega arith;
      }

  pub is_oldest : (s : ℕ) → share.queue.first ≡ Some s → IsOldest pool.entries v s
  is_oldest s first = oldest_some pool.entries pool.lines v share moment (h.lined v share here) s first

  pub oldest_held : (s : ℕ) → share.queue.first ≡ Some s → IsHeld pool.entries s
  oldest_held s first = on_line_held v false pool.entries s (is_oldest s first).ages

  -- its oldest entry lives
  pub refuses_live : (calls compared ageing s : ℕ) (pool' : Pool) → share.limit ≤ share.count → share.queue.first ≡ Some s → is_dead_in (entry_at pool.entries s) ageing moment ≡ false → pool' ≡ record pool { visited = pool.visited + 1 }
      → Refuses (seen pool shares moment calls compared) (seen pool' shares moment calls compared) v ageing
  refuses_live calls compared ageing s pool' le first lives e =
      let old : Shared = seen pool shares moment calls compared in
      let swept = sweep_ends (seen pool shares moment calls compared) (seen pool shares moment calls compared) v ageing s (sweep_starts (seen pool shares moment calls compared) v ageing) (is_oldest s first) lives (record (seen pool shares moment calls compared) { visited = pool.visited + 1 }) refl in
      subst (λ (p : Pool). Refuses (seen pool shares moment calls compared) (seen p shares moment calls compared) v ageing) (sym e) (record {
        same = refl;
        live = swept.live;
        full = at_limit le;
        few = omega arith;
        counted = omega arith;
      })

-- ---- the dead go behind what has come

-- sums of entries, one by one
sum_le : (f : Option Held → ℕ) (xs ys : List (Option Held)) → length xs ≡ length ys → ((i : ℕ) → f (entry_at xs i) ≤ f (entry_at ys i)) → sum_by f xs ≤ sum_by f ys
sum_le f [] [] e h = omega arith
sum_le f [] (y ∷ ys) e h = let bad : ⊥ = omega (arith, e) in absurd bad
sum_le f (x ∷ xs) [] e h = let bad : ⊥ = omega (arith, e) in absurd bad
sum_le f (x ∷ xs) (y ∷ ys) e h =
    let same : length xs ≡ length ys = omega (arith, e) in
    omega (arith, h 0, sum_le f xs ys same (λ i. h (suc i)), sum_by-cons f x xs, sum_by-cons f y ys)

-- a list where what stands somewhere is written there is the same
set_read : (xs : List (Option Held)) (i : ℕ) (x : Option Held) → i < length xs → entry_at xs i ≡ x → set xs i x ≡ xs
set_read [] i x lt e = let bad : ⊥ = omega (arith, lt) in absurd bad
set_read (y ∷ xs) zero x lt e = ap (λ z. z ∷ xs) (sym e)
set_read (y ∷ xs) (suc i) x lt e = ap (λ zs. y ∷ zs) (set_read xs i x (omega (arith, lt)) e)

-- an entry of now isn't dead
pub new_lives : (e : Held) (ageing moment : ℕ) → 0 < ageing → IsNow e.last moment → is_dead_in (Some e) ageing moment ≡ false
new_lives e ageing moment some now = at e.last now
  where
    at : (last : Option ℕ) → IsNow last moment → not (is_young ageing moment last) ≡ false
    at None k = refl
    at (Some last) k = grind (arith, nat_tests, some, k)

module _ (base mid new : Shared) (v ageing : ℕ) (e : Held) (of : e.vid ≡ v) (lives : is_dead_in (Some e) ageing base.moment ≡ false) (en : Enters base mid e) (sw : Sweeps mid new v ageing) where
  abbrev s : ℕ
  s = en.slot

  entries_mid : mid.entries ≡ set base.entries s (Some e)
  entries_mid = ap (λ (w : Shared). w.entries) en.same

  moment_mid : mid.moment ≡ base.moment
  moment_mid = ap (λ (w : Shared). w.moment) en.same

  mid_here : entry_at mid.entries s ≡ Some e
  mid_here = ap (λ xs. entry_at xs s) entries_mid ∙ entry_same base.entries s (Some e) en.in_pool

  -- the new entry stays
  new_here : entry_at new.entries s ≡ Some e
  new_here = from (sw.each s)
    where
      from : KeepsOrFrees (entry_at mid.entries s) (entry_at new.entries s) v ageing mid.moment → entry_at new.entries s ≡ Some e
      from (inl q) = q ∙ mid_here
      from (inr q) =
          let dead : is_dead_in (Some e) ageing base.moment ≡ true = ap (λ m. is_dead_in (Some e) ageing m) (sym moment_mid) ∙ ap (λ o. is_dead_in o ageing mid.moment) (sym mid_here) ∙ q.2 in
          let bad : true ≡ false = sym dead ∙ lives in cc

  mid_else : (i : ℕ) → i ≢ s → entry_at mid.entries i ≡ entry_at base.entries i
  mid_else i ne = ap (λ xs. entry_at xs i) entries_mid ∙ entry_other base.entries s i (Some e) ne

  len_mid : length mid.entries ≡ length base.entries
  len_mid = ap length entries_mid ∙ length-set base.entries s (Some e)

  new_lt : s < length new.entries
  new_lt = omega (arith, en.in_pool, sw.size, len_mid)

  -- the tables without it
  abbrev left : Shared
  left = record base { entries = set new.entries s None; visited = new.visited }

  left_here : entry_at left.entries s ≡ None
  left_here = entry_same new.entries s None new_lt

  left_else : (i : ℕ) → i ≢ s → entry_at left.entries i ≡ entry_at new.entries i
  left_else i ne = entry_other new.entries s i None ne

  each : (i : ℕ) → KeepsOrFrees (entry_at base.entries i) (entry_at left.entries i) v ageing base.moment
  each i = by_bool (nat_eq i s)
      (λ yes. inl (ap (entry_at left.entries) (equal i s yes) ∙ left_here ∙ sym en.free ∙ ap (entry_at base.entries) (sym (equal i s yes))))
      (λ no.
      let k = subst (λ m. KeepsOrFrees (entry_at mid.entries i) (entry_at new.entries i) v ageing m) moment_mid (sw.each i) in
      subst (λ x. KeepsOrFrees (entry_at base.entries i) x v ageing base.moment) (sym (left_else i (apart i s no)))
      (subst (λ x. KeepsOrFrees x (entry_at new.entries i) v ageing base.moment) (mid_else i (apart i s no)) k))

  held_mid : held_count mid.entries ≡ held_count base.entries + 1
  held_mid = omega (arith, ap held_count entries_mid, sum_by-set (weight is_held) base.entries s (Some e) None en.in_pool, ap (weight is_held) en.free)

  held_left : held_count left.entries + 1 ≡ held_count new.entries
  held_left = omega (arith, sum_by-set (weight is_held) new.entries s None None new_lt, ap (weight is_held) new_here)

  left_len : length left.entries ≡ length base.entries
  left_len = length-set new.entries s None ∙ sw.size ∙ len_mid

  visited_mid : mid.visited ≡ base.visited
  visited_mid = ap (λ (w : Shared). w.visited) en.same

  pub left_swept : Sweeps base left v ageing
  left_swept = record {
    same = refl;
    size = left_len;
    each = each;
    live = λ i on. by_bool (nat_eq i s)
        (λ yes. let bad : false ≡ true = sym (ap (line_key v false) (ap (entry_at left.entries) (equal i s yes) ∙ left_here)) ∙ on in cc)
        (λ no.
        let same = left_else i (apart i s no) in
        ap (λ o. is_dead_in o ageing base.moment) same ∙ ap (is_dead_in (entry_at new.entries i) ageing) (sym moment_mid) ∙ sw.live i (sym (ap (line_key v false) same) ∙ on));
    paid = omega (arith, sw.paid, held_mid, held_left, visited_mid);
    counted = omega (arith, sw.counted, visited_mid);
  }

  fewer : (old new : Option Held) → KeepsOrFrees old new v ageing base.moment → weight (vid_key v) new ≤ weight (vid_key v) old
  fewer old new (inl q) = subst (λ x. weight (vid_key v) x ≤ weight (vid_key v) old) (sym q) (omega arith)
  fewer old new (inr q) = subst (λ x. weight (vid_key v) x ≤ weight (vid_key v) old) (sym q.0) (omega arith)

  left_few : kept_count v left.entries ≤ kept_count v base.entries
  left_few = sum_le (weight (vid_key v)) left.entries base.entries left_len (λ i. fewer (entry_at base.entries i) (entry_at left.entries i) (each i))

  more_room : (o : Option Rule) (a b : ℕ) → a ≤ b → HasRoom o b → HasRoom o a
  more_room None a b le h = absurd h
  more_room (Some rule) a b le h = omega (arith, le, h)

  pub left_room : HasRoom (rule_at base.rules v) (kept_count v base.entries) → HasRoom (rule_at left.rules v) (kept_count v left.entries)
  left_room room = more_room (rule_at base.rules v) (kept_count v left.entries) (kept_count v base.entries) left_few room

  pub left_enters : Enters left new e
  left_enters = record {
    slot = s;
    in_pool = omega (arith, en.in_pool, left_len);
    free = left_here;
    same = sw.same ∙ ap (λ (w : Shared). record w { entries = new.entries; visited = new.visited }) en.same
        ∙ ap (λ xs. record base { entries = xs; visited = new.visited }) (sym (set-set new.entries s None (Some e) ∙ set_read new.entries s (Some e) new_lt new_here));
  }

-- what went before goes with the rest
then_sweeps : (old mid new : Shared) (v ageing : ℕ) → Frees old mid v ageing → Sweeps mid new v ageing → Sweeps old new v ageing
then_sweeps old mid new v ageing f sw = record {
  same = sw.same ∙ ap (λ (w : Shared). record w { entries = new.entries; visited = new.visited }) f.same;
  size = sw.size ∙ f.size;
  each = λ i. both (entry_at old.entries i) (entry_at mid.entries i) (entry_at new.entries i) (f.each i) (subst (λ m. KeepsOrFrees (entry_at mid.entries i) (entry_at new.entries i) v ageing m) moments (sw.each i));
  live = λ i on. ap (is_dead_in (entry_at new.entries i) ageing) (sym moments) ∙ sw.live i on;
  paid = omega (arith, sw.paid, f.paid);
  counted = omega (arith, sw.counted, f.counted);
}
  where
    moments : mid.moment ≡ old.moment
    moments = ap (λ (w : Shared). w.moment) f.same

    both : (a b c : Option Held) → KeepsOrFrees a b v ageing old.moment → KeepsOrFrees b c v ageing old.moment → KeepsOrFrees a c v ageing old.moment
    both a b c (inl p) k = subst (λ x. KeepsOrFrees x c v ageing old.moment) p k
    both a b c (inr p) (inl q) = inr (q ∙ p.0, p.1, p.2)
    both a b c (inr p) (inr q) = inr (q.0, p.1, p.2)

-- an entry has come, and then the dead go
pub made_admits : (old mid new : Shared) (v ageing : ℕ) (e : Held) → e.vid ≡ v → is_dead_in (Some e) ageing old.moment ≡ false → Makes old mid v ageing e → Sweeps mid new v ageing → Admits old new v ageing e true
made_admits old mid new v ageing e of lives (inl k) sw = record {
  mid = left old mid new v ageing e of lives k.1 sw;
  swept = left_swept old mid new v ageing e of lives k.1 sw;
  done = inr (refl, left_room old mid new v ageing e of lives k.1 sw k.0, left_enters old mid new v ageing e of lives k.1 sw);
}
made_admits old mid new v ageing e of lives (inr o) sw =
    let told : Shared = record old { visited = old.visited + 1 } in
    let base : Shared = record old { entries = set old.entries o.slot None; visited = old.visited + 1 } in
    let frees = sweep_on old old v ageing o.slot (sweep_starts old v ageing) o.oldest o.dead (record old { visited = old.visited + 1 }) (record old { entries = set old.entries o.slot None; visited = old.visited + 1 }) refl refl in
    record {
      mid = left (record old { entries = set old.entries o.slot None; visited = old.visited + 1 }) mid new v ageing e of lives o.comes sw;
      swept = then_sweeps old (record old { entries = set old.entries o.slot None; visited = old.visited + 1 }) _ v ageing frees (left_swept (record old { entries = set old.entries o.slot None; visited = old.visited + 1 }) mid new v ageing e of lives o.comes sw);
      done = inr (refl, left_room (record old { entries = set old.entries o.slot None; visited = old.visited + 1 }) mid new v ageing e of lives o.comes sw o.room, left_enters (record old { entries = set old.entries o.slot None; visited = old.visited + 1 }) mid new v ageing e of lives o.comes sw);
    }

-- none has come
pub refused_admits : (old new : Shared) (v ageing : ℕ) (e : Held) → Refuses old new v ageing → Admits old new v ageing e false
refused_admits old new v ageing e r =
    let same : new.entries ≡ old.entries = ap (λ (w : Shared). w.entries) r.same in
    record {
      mid = new;
      swept = record {
        same = r.same ∙ ap (λ xs. record old { entries = xs; visited = new.visited }) (sym same);
        size = ap length same;
        each = λ i. inl (ap (λ xs. entry_at xs i) same);
        live = λ i on. subst (λ xs. is_dead_in (entry_at xs i) ageing old.moment ≡ false) (sym same) (r.live i (subst (λ xs. line_key v false (entry_at xs i) ≡ true) same on));
        paid = omega (arith, ap held_count same, r.few);
        counted = r.counted;
      };
      done = inl (refl, refl, subst (λ (w : Shared). IsAtLimit (rule_at w.rules v) (kept_count v w.entries)) (sym r.same) r.full);
    }

-- ---- what came of an address

pub comes_compared : (old new : Shared) (n : Newcomer) (b : Bool) → ComesOrNot old new n b → new.compared ≡ old.compared
comes_compared old new n true (inl k) = ap (λ (w : Shared). w.compared) k.1.same
comes_compared old new n true (inr o) = ap (λ (w : Shared). w.compared) o.comes.same
comes_compared old new n false r = ap (λ (w : Shared). w.compared) r.same

pub outcome_for : (f now new : Shared) (n : Newcomer) (b comes : Bool) → f ≡ record now { compared = new.compared } → Lacks f.entries n.vid n.mac → ComesOrNot f new n comes → comes ≡ b → (r : Outcome) → r ≡ cond b outcome.Entered outcome.Full
    → ComesTo (record now { compared = new.compared }) new (span_of (rule_at now.rules n.vid)) (held_of n) r
outcome_for f now new n b comes is lacks h same r e =
    subst (λ (w : Shared). ComesTo w new (span_of (rule_at w.rules n.vid)) (held_of n) r) is
    (subst (ComesTo f new (span_of (rule_at f.rules n.vid)) (held_of n)) (sym e) (at b (subst (ComesOrNot f new n) same h)))
  where
    at : (b : Bool) → ComesOrNot f new n b → ComesTo f new (span_of (rule_at f.rules n.vid)) (held_of n) (cond b outcome.Entered outcome.Full)
    at true k = (lacks, k)
    at false k = (lacks, k)

-- the tables behind a look-up
pub seen_found : (slots : Pool) (shares : List (Option Share)) (moment calls was n : ℕ) (now : Shared) → seen slots shares moment calls was ≡ now → seen slots shares moment calls n ≡ record now { compared = n }
seen_found slots shares moment calls was n now view = ap (λ (w : Shared). record w { compared = n }) view

-- what is found or admitted, behind what was found or came
pub then_admits : (old mid new : Shared) (v ageing : ℕ) (e : Held) → e.vid ≡ v → is_dead_in (Some e) ageing old.moment ≡ false → ComesTo old mid ageing e outcome.Entered → Sweeps mid new v ageing → FindsOrAdmits old new ageing e outcome.Entered
then_admits old mid new v ageing e of lives h sw = (h.0, subst (λ u. Admits old new u ageing e true) (sym of) (made_admits old mid new v ageing e of lives (subst (λ u. Makes old mid u ageing e) of h.1) sw))

pub else_admits : (old new : Shared) (ageing : ℕ) (e : Held) (r : Outcome) → r ≢ outcome.Entered → ComesTo old new ageing e r → FindsOrAdmits old new ageing e r
else_admits old new ageing e (outcome.Held slot) ne h = h
else_admits old new ageing e outcome.Entered ne h = absurd (ne refl)
else_admits old new ageing e outcome.Full ne h = (h.0, refused_admits old new e.vid ageing e h.1)

pub comes_to_compared : (old new : Shared) (ageing : ℕ) (e : Held) → ComesTo old new ageing e outcome.Entered → new.compared ≡ old.compared
comes_to_compared old new ageing e h = from h.1
  where
    from : Makes old new e.vid ageing e → new.compared ≡ old.compared
    from (inl k) = ap (λ (w : Shared). w.compared) k.1.same
    from (inr o) = ap (λ (w : Shared). w.compared) o.comes.same

pub comes_to_rules : (old new : Shared) (ageing : ℕ) (e : Held) → ComesTo old new ageing e outcome.Entered → (new.rules ≡ old.rules) × (new.moment ≡ old.moment)
comes_to_rules old new ageing e h = from h.1
  where
    from : Makes old new e.vid ageing e → (new.rules ≡ old.rules) × (new.moment ≡ old.moment)
    from (inl k) = (ap (λ (w : Shared). w.rules) k.1.same, ap (λ (w : Shared). w.moment) k.1.same)
    from (inr o) = (ap (λ (w : Shared). w.rules) o.comes.same, ap (λ (w : Shared). w.moment) o.comes.same)

-- the share of a segment that has a rule
pub share_there : (shares : List (Option Share)) (v : ℕ) → IsSome (rule_at (map (option_map rule_of) shares) v) → IsShare shares v
share_there shares v h = from (share_at shares v) refl (has_share shares v h)
  where
    from : (o : Option Share) → share_at shares v ≡ o → IsSome o → IsShare shares v
    from None e h = let bad : false ≡ true = h in cc
    from (Some share) e h = record { share = share; here = e }

-- an entry has come, and then the dead have gone
pub admits_behind : (now mid new : Shared) (v : ℕ) (e : Held) (r : Outcome) → e.vid ≡ v → 0 < span_of (rule_at now.rules v) → IsNow e.last now.moment → r ≡ outcome.Entered
    → ComesTo (record now { compared = mid.compared }) mid (span_of (rule_at now.rules v)) e r → Sweeps mid new v (span_of (rule_at mid.rules v)) → FindsOrAdmits (record now { compared = new.compared }) new (span_of (rule_at now.rules v)) e r
admits_behind now mid new v e r of some when is comes sw =
    let came = subst (ComesTo (record now { compared = mid.compared }) mid (span_of (rule_at now.rules v)) e) is comes in
    let same = comes_to_rules (record now { compared = mid.compared }) mid (span_of (rule_at now.rules v)) e came in
    let swept = subst (λ rs. Sweeps mid new v (span_of (rule_at rs v))) same.0 sw in
    let compared : new.compared ≡ mid.compared = ap (λ (w : Shared). w.compared) sw.same in
    subst (FindsOrAdmits (record now { compared = new.compared }) new (span_of (rule_at now.rules v)) e) (sym is)
    (subst (λ n. FindsOrAdmits (record now { compared = n }) new (span_of (rule_at now.rules v)) e outcome.Entered) (sym compared)
    (then_admits (record now { compared = mid.compared }) mid new v (span_of (rule_at now.rules v)) e of (new_lives e (span_of (rule_at now.rules v)) now.moment some when) came swept))
