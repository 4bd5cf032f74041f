-- What the calls leave that learn an address, fix it, or let go of a whole segment's entries.
use Rattle.std.proofs.Common.{◌≡◌, ℕ, ◌+◌, ◌≤◌, Bool, true, false, cond, not, List, set, Option, Some, None, IsSome, refl, sym, ap, ◌∙◌, subst}
use Rattle.filter_db.specs.declared.place.Place.{Place}
use Rattle.filter_db.specs.declared.tables.Learned.{Learned}
use Rattle.filter_db.specs.declared.tables.Learned.TheVariants as learned
use Rattle.filter_db.specs.Table.{nanoseconds, learned_as, is_full, has_fixed}
use Rattle.filter_db.specs.Segment.{Segment, aged_all, segment_at, adjusted, learn_in, fix_in, unfix_in}
use Rattle.shared_tables.specs.Bucket.{bucket_of}
use Rattle.shared_tables.specs.Pool.{Held, entry_at, is_fixed_in}
use Rattle.shared_tables.specs.Shared.{Shared, Lacks, bucket_count, rule_at, span_of, IsOrderly, IsUnique, Sweeps, Admits, Relearns, Refreshes, Drops}
use Rattle.shared_tables.specs.Segments.{segments_of}
use Rattle.shared_tables.specs.Work.{ComparesByBits, VisitsFew, TellsAtMost}
use Rattle.shared_tables.proofs.OnCalls.SegmentsLemmas.{HasRule}
use Rattle.shared_tables.proofs.OnCalls.CallLemmas.{Begins, begins_plain, Finds, Misses, misses, own, rule_there, span_is, own_is, learn_new, learn_full, learn_again, fix_new, fix_full, fix_again, unfix_none, unfix_fixed, unfix_learned, changes}
use Rattle.shared_tables.proofs.OnCalls.WorkLemmas.{Visits, visits_of, swept_visits, admit_visits, refresh_visits, relearn_visits, seen_now, learned_now, learn_tells, fix_tells, none_tells}
use Rattle.shared_tables.proofs.OnCalls.Steps.{IsStep, Leaves, leaves, LeavesSearched, leaves_searched, still, sweep_step, admit_step, refresh_step, relearn_step, release_step, drop_step}

-- a call has learned an address, or refused it
pub record Learns (old new : Shared) (now v : ℕ) (mac : List ℕ) (place : Place) (answer : Learned) : Type 0 where
  pub answers : let s = segment_at v (aged_all now (segments_of old)) in answer ≡ learned_as s.limit place mac s.entries
  pub after : segments_of new ≡ adjusted v (learn_in now place mac) (aged_all now (segments_of old))
  pub left : LeavesSearched old new now v mac
  pub visited : VisitsFew old new now
  pub known : TellsAtMost 1 old new v mac

-- a call has fixed an address, or refused it
pub record Fixes (old new : Shared) (now v : ℕ) (mac : List ℕ) (place : Place) (full : Bool) : Type 0 where
  pub answers : let s = segment_at v (aged_all now (segments_of old)) in is_full s.limit mac s.entries ≡ full
  pub after : segments_of new ≡ adjusted v (fix_in place mac) (aged_all now (segments_of old))
  pub left : LeavesSearched old new now v mac
  pub visited : VisitsFew old new now
  pub known : TellsAtMost 0 old new v mac

-- a call has let a fixed address go, or hasn't found it
pub record Unfixes (old new : Shared) (now v : ℕ) (mac : List ℕ) (there : Bool) : Type 0 where
  pub answers : let s = segment_at v (aged_all now (segments_of old)) in has_fixed mac s.entries ≡ there
  pub after : segments_of new ≡ adjusted v (unfix_in mac) (aged_all now (segments_of old))
  pub left : LeavesSearched old new now v mac
  pub visited : new.visited ≡ old.visited

module _ (old f new : Shared) (now v : ℕ) (le : old.moment ≤ now) (has : IsSome (segments_of old v)) (mac : List ℕ) (place : Place) where
  -- what the segment had
  same : (k : Begins old f now) → segment_at v (aged_all now (segments_of old)) ≡ own old f now v k le has
  same k = own_is old f now v k le has

  -- ---- a slot holds the address
  pub learns_again : (slot : ℕ) (answer : Learned) → Finds old f now v mac slot → Relearns f new slot (span_of (rule_at f.rules v)) place answer → Learns old new now v mac place answer
  learns_again slot answer k h =
      let b = k.search.begun in
      let again = learn_again old f now v b le has mac slot k.held k.in_pool place new answer h in
      record {
        answers = again.0 ∙ sym (ap (λ (s : Segment). learned_as s.limit place mac s.entries) (same b));
        after = again.1;
        left = leaves_searched old f new now v mac k.search (relearn_step f new slot _ place answer k.in_pool h);
        visited = visits_of old f new now b (relearn_visits f new slot _ v mac place answer k.in_pool.in_pool k.held (seen_now old f now v b le has mac place) h);
        known = learn_tells old f new now v mac slot _ place answer b h;
      }

  pub fixes_again : (slot : ℕ) → Finds old f now v mac slot → Refreshes f new slot place None → Fixes old new now v mac place false
  fixes_again slot k h =
      let b = k.search.begun in
      let again = fix_again old f now v b le has mac slot k.held k.in_pool place new h in
      record {
        answers = ap (λ (s : Segment). is_full s.limit mac s.entries) (same b) ∙ again.0;
        after = again.1;
        left = leaves_searched old f new now v mac k.search (refresh_step f new slot place None k.in_pool h);
        visited = visits_of old f new now b (refresh_visits f new slot v mac place k.in_pool.in_pool k.held h);
        known = fix_tells old f new now v mac slot place None b h;
      }

  -- ---- no slot holds it
  module _ (answer : Bool) (k : Misses old f now v mac) where
    abbrev b : Begins old f now
    b = k.search.begun

    -- an entry of this last moment has come, or was refused
    abbrev AdmitsOf : Option ℕ → Bool → Type 0
    AdmitsOf last answer = Admits f new v (span_of (rule_at f.rules v)) (record { vid = v; mac = mac; place = place; last = last }) answer

    learns_new : AdmitsOf (Some now) answer → Learns old new now v mac place (cond answer learned.New learned.Full)
    learns_new h =
        let new_or_full = given answer h in
        record {
          answers = new_or_full.0 ∙ sym (ap (λ (s : Segment). learned_as s.limit place mac s.entries) (same b));
          after = new_or_full.1;
          left = leaves_searched old f new now v mac k.search (admit_step f new v _ _ answer h);
          visited = visits_of old f new now b (admit_visits f new v _ answer (learned_now old f now v b le has mac place) h);
          known = none_tells 1 old f new now v mac b k.lacks;
        }
      where
        given : (answer : Bool) → AdmitsOf (Some now) answer
            → (cond answer learned.New learned.Full ≡ learned_as (own old f now v b le has).limit place mac (own old f now v b le has).entries) × (segments_of new ≡ adjusted v (learn_in now place mac) (aged_all now (segments_of old)))
        given true h = learn_new old f now v b le has mac k.lacks place new h
        given false h = learn_full old f now v b le has mac k.lacks place new h

    fixes_new : AdmitsOf None answer → Fixes old new now v mac place (not answer)
    fixes_new h =
        let new_or_full = given answer h in
        record {
          answers = ap (λ (s : Segment). is_full s.limit mac s.entries) (same b) ∙ new_or_full.0;
          after = new_or_full.1;
          left = leaves_searched old f new now v mac k.search (admit_step f new v _ _ answer h);
          visited = visits_of old f new now b (admit_visits f new v _ answer refl h);
          known = none_tells 0 old f new now v mac b k.lacks;
        }
      where
        given : (answer : Bool) → AdmitsOf None answer
            → (is_full (own old f now v b le has).limit mac (own old f now v b le has).entries ≡ not answer) × (segments_of new ≡ adjusted v (fix_in place mac) (aged_all now (segments_of old)))
        given true h = fix_new old f now v b le has mac k.lacks place new h
        given false h = fix_full old f now v b le has mac k.lacks place new h

-- an address was looked for in vain, and then an entry came, or was refused
module _ (old b new : Shared) (now v : ℕ) (le : old.moment ≤ now) (has : IsSome (segments_of old v)) (mac : List ℕ) (place : Place) (came : Bool) (began : b ≡ record old { calls = old.calls + 1; moment = now }) (orderly : IsOrderly b) where
  abbrev looked : Shared
  looked = record b { compared = new.compared }

  module _ (more : b.compared ≤ new.compared) (few : new.compared ≤ b.compared + bucket_count (bucket_of v mac) b.entries) (bits : ComparesByBits b looked) (lacks : Lacks b.entries v mac) where
    missed : Misses old looked now v mac
    missed = misses old b looked now v mac new.compared began orderly refl more few bits lacks

    pub learns_missed : Admits looked new v (span_of (rule_at b.rules v)) (record { vid = v; mac = mac; place = place; last = Some now }) came → Learns old new now v mac place (cond came learned.New learned.Full)
    learns_missed h = learns_new old looked new now v le has mac place came missed h

    pub fixes_missed : Admits looked new v (span_of (rule_at b.rules v)) (record { vid = v; mac = mac; place = place; last = None }) came → Fixes old new now v mac place (not came)
    fixes_missed h = fixes_new old looked new now v le has mac place came missed h

-- ---- a fixed address goes

module _ (old f : Shared) (now v : ℕ) (le : old.moment ≤ now) (has : IsSome (segments_of old v)) (mac : List ℕ) where
  had : (k : Begins old f now) → (b : Bool) → has_fixed mac (own old f now v k le has).entries ≡ b → has_fixed mac (segment_at v (aged_all now (segments_of old))).entries ≡ b
  had k b is = ap (λ (s : Segment). has_fixed mac s.entries) (own_is old f now v k le has) ∙ is

  pub unfixes : (new : Shared) (slot : ℕ) → Finds old f now v mac slot → is_fixed_in (entry_at f.entries slot) ≡ true → new ≡ record f { entries = set f.entries slot None } → Unfixes old new now v mac true
  unfixes new slot k fixed e =
      let b = k.search.begun in
      let gone = unfix_fixed old f now v b le has mac slot k.held k.in_pool new fixed e in
      record {
        answers = had b true gone.0;
        after = gone.1;
        left = leaves_searched old f new now v mac k.search (release_step f new slot k.in_pool.in_pool e);
        visited = ap (λ (w : Shared). w.visited) e ∙ b.visited;
      }

  pub unfixes_learned : (slot : ℕ) → Finds old f now v mac slot → is_fixed_in (entry_at f.entries slot) ≡ false → Unfixes old f now v mac false
  unfixes_learned slot k learned_one =
      let b = k.search.begun in
      let stays = unfix_learned old f now v b le has mac slot k.held k.in_pool f learned_one refl in
      record { answers = had b false stays.0; after = stays.1; left = leaves_searched old f f now v mac k.search (still f); visited = b.visited }

  pub unfixes_none : Misses old f now v mac → Unfixes old f now v mac false
  unfixes_none k =
      let b = k.search.begun in
      let stays = unfix_none old f now v b le has mac k.lacks f refl in
      record { answers = had b false stays.0; after = stays.1; left = leaves_searched old f f now v mac k.search (still f); visited = b.visited }

-- ---- all entries go that pass a test

-- a call has let them go, and visits none
pub record LetsGo (old new : Shared) (now v : ℕ) (change : Segment → Segment) : Type 0 where
  pub after : segments_of new ≡ adjusted v change (aged_all now (segments_of old))
  pub left : Leaves old new now
  pub compared : new.compared ≡ old.compared
  pub visited : new.visited ≡ old.visited

pub lets_go : (old f new : Shared) (now v : ℕ) (change : Segment → Segment) (test : Option Held → Bool) → f ≡ record old { calls = old.calls + 1; moment = now } → IsOrderly f → old.moment ≤ now → IsSome (segments_of old v)
    → Drops f new test → (IsUnique f.entries → segments_of new ≡ adjusted v change (segments_of f)) → LetsGo old new now v change
lets_go old f new now v change test e orderly le has drops changed =
    let b : Begins old f now = begins_plain old f now e orderly in
    let s = drop_step f new test drops in
    record {
      after = changes old f now v b le has new change (changed orderly.unique);
      left = leaves old f new now b s;
      compared = s.compared ∙ ap (λ (w : Shared). w.compared) e;
      visited = ap (λ (w : Shared). w.visited) drops.same ∙ b.visited;
    }

-- ---- the dead go first

-- a call has begun, and let the dead entries of its segment go
pub record Swept (old f mid : Shared) (now v : ℕ) : Type 0 where
  pub begun : Begins old f now
  pub rule : HasRule f.rules v
  pub swept : Sweeps f mid v (nanoseconds rule.rule.ageing)
  pub step : IsStep f mid
  pub visits : Visits f mid
  pub compared : f.compared ≡ old.compared

pub sweeps_first : (old f mid : Shared) (now v : ℕ) → f ≡ record old { calls = old.calls + 1; moment = now } → IsOrderly f → old.moment ≤ now → IsSome (segments_of old v) → Sweeps f mid v (span_of (rule_at f.rules v)) → Swept old f mid now v
sweeps_first old f mid now v e orderly le has h =
    let b : Begins old f now = begins_plain old f now e orderly in
    record {
      begun = b;
      rule = rule_there old f now v b le has;
      swept = subst (Sweeps f mid v) (span_is old f now v b le has) h;
      step = sweep_step f mid v _ h;
      visits = swept_visits f mid v h;
      compared = ap (λ (w : Shared). w.compared) e;
    }
