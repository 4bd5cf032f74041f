-- The tables of all segments: what a call on one of them leaves of the others.
use Rattle.std.proofs.Common.{◌≡◌, ◌≢◌, refl, sym, ap, ◌∙◌, subst, ℕ, zero, suc, ◌+◌, ◌<◌, ◌≤◌, ◌==◌, not, Bool, true, false, cond, List, [], ◌∷◌, ◌++◌, length, map, slice_set, get_or, take, find, Option, Some, None, arith}
use Rattle.std.proofs.Math.Path.{fun_ext}
use Rattle.std.proofs.Math.Nat.{le_refl}
use Rattle.std.proofs.lemmas.Bool.{eqb-true, eq-eqb, false≢true}
use Rattle.std.specs.Option.{option_map, option_or, unwrap_or}
use Rattle.filter_db.specs.declared.place.Place.{Place}
use Rattle.std.proofs.lemmas.List.{take_more}
use Rattle.std.proofs.lemmas.List.Folds.{find-append}
use Rattle.filter_db.specs.declared.tables.TableRule.{TableRule}
use Rattle.filter_db.specs.Table.{Table, nanoseconds, live, is_live, is_fixed, is_seen_at}
use Rattle.filter_db.specs.Segment.{Segment, aged, aged_all, segment_at, adjusted, no_segment, learn_in, fix_in, unfix_in, flush_place_in, flush_in, set_ageing_in, AreForDistinctVids, new_segment, new_segments}
use Rattle.filter_db.specs.Database.{Database, database_at, slot, segments_of}
use Rattle.filter_db.specs.Ageing.{live-live, aged-aged, aged_later, aged_all-aged_all}
use Rattle.filter_db.proofs.TableLemmas.{live-learn, live-fix, live-unfix, live-kept, kept-empty}

-- ---- slots

slot_aged : (t : ℕ) (segments : List (Option Segment)) (vid : ℕ) → slot (map (option_map (aged t)) segments) vid ≡ option_map (aged t) (slot segments vid)
slot_aged t [] vid = refl
slot_aged t (o ∷ os) zero = refl
slot_aged t (o ∷ os) (suc vid) = slot_aged t os vid

pub slot-read : (segments : List (Option Segment)) (i : ℕ) (o : Option Segment) → i < length segments → o ≡ get_or segments i o → slot segments i ≡ o
slot-read [] i o h e = absurd (omega arith)
slot-read (x ∷ xs) zero o h e = sym e
slot-read (x ∷ xs) (suc i) o h e = slot-read xs i o (omega arith) e

pub slot-set_own : (segments : List (Option Segment)) (i : ℕ) (o : Option Segment) → i < length segments → slot (slice_set segments i o) i ≡ o
slot-set_own [] i o h = absurd (omega arith)
slot-set_own (x ∷ xs) zero o h = refl
slot-set_own (x ∷ xs) (suc i) o h = slot-set_own xs i o (omega arith)

pub slot-set_other : (segments : List (Option Segment)) (i w : ℕ) (o : Option Segment) → w ≢ i → slot (slice_set segments i o) w ≡ slot segments w
slot-set_other [] i w o other = refl
slot-set_other (x ∷ xs) zero zero o other = absurd (other refl)
slot-set_other (x ∷ xs) zero (suc w) o other = refl
slot-set_other (x ∷ xs) (suc i) zero o other = refl
slot-set_other (x ∷ xs) (suc i) (suc w) o other = slot-set_other xs i w o (λ same. other (ap suc same))

pub slot-push : (segments : List (Option Segment)) (w : ℕ) → slot segments w ≡ None → slot (segments ++ None ∷ []) w ≡ None
slot-push [] zero none = refl
slot-push [] (suc w) none = refl
slot-push (x ∷ xs) zero none = none
slot-push (x ∷ xs) (suc w) none = slot-push xs w none

pub apart : (a b : ℕ) → (a == b) ≡ false → a ≢ b
apart a b h = λ same. false≢true (sym h ∙ eq-eqb a b same)

pub segments_of-view : (t : ℕ) (segments : List (Option Segment)) → segments_of (database_at t segments) ≡ aged_all t (slot segments)
segments_of-view t segments = fun_ext (λ vid. ap (option_map (aged t)) (slot_aged t segments vid) ∙ aged_later t t (slot segments vid) (le_refl t))

-- ---- one call

-- a call at moment now finds the table of its VID
pub record Finds (moment : ℕ) (segments : List (Option Segment)) (d : Database) (index vid now : ℕ) (s : Segment) : Type 0 where
  pub view : database_at moment segments ≡ d
  pub time : moment ≤ now
  pub index_is : index ≡ vid
  pub in_range : index < length segments
  pub own : slot segments index ≡ Some s

pub finds : {moment : ℕ} {d : Database} {index vid now : ℕ} {s : Segment} {o : Option Segment} (segments : List (Option Segment)) → database_at moment segments ≡ d → d.moment ≤ now → length segments ≡ 4096 → index ≡ vid → index < 4096 → o ≡ get_or segments index o → o ≡ Some s → Finds moment segments d index vid now s
finds {index = index} {o = o} segments view time size index_is below read is =
    let in_range : index < length segments = omega arith in
    record {
      view = view;
      time = omega (arith, ap (λ (e : Database). e.moment) view);
      index_is = index_is;
      in_range = in_range;
      own = slot-read segments index o in_range read ∙ is;
    }

-- all segments at the moment of the call
aged_all-found : {moment : ℕ} {segments : List (Option Segment)} {d : Database} {index vid now : ℕ} {s : Segment} → Finds moment segments d index vid now s → aged_all now (segments_of d) ≡ aged_all now (slot segments)
aged_all-found {moment} {segments} {d} {index} {vid} {now} {s} found =
    ap (λ (e : Database). aged_all now (segments_of e)) (sym found.view)
    ∙ ap (aged_all now) (segments_of-view moment segments) ∙ aged_all-aged_all moment now (slot segments) found.time

-- its own segment
pub segment_at-found : {moment : ℕ} {segments : List (Option Segment)} {d : Database} {index vid now : ℕ} {s : Segment} → Finds moment segments d index vid now s → segment_at vid (aged_all now (segments_of d)) ≡ aged now s
segment_at-found {moment} {segments} {d} {index} {vid} {now} {s} found =
    ap (segment_at vid) (aged_all-found found) ∙ ap (λ (i : ℕ). segment_at i (aged_all now (slot segments))) (sym found.index_is)
    ∙ ap (λ o. unwrap_or (option_map (aged now) o) no_segment) found.own

slot-changed : (segments : List (Option Segment)) (index now : ℕ) (s after : Segment) (change : Segment → Segment) (w : ℕ) → index < length segments → slot segments index ≡ Some s → after ≡ change (aged now s) → aged now after ≡ after → aged_all now (slot (slice_set segments index (Some after))) w ≡ adjusted index change (aged_all now (slot segments)) w
slot-changed segments index now s after change w in_range own is settled =
    elim (w == index) as (λ b. (w == index) ≡ b → aged_all now (slot (slice_set segments index (Some after))) w ≡ cond b (option_map change (aged_all now (slot segments) w)) (aged_all now (slot segments) w)) [
      | true ↦ λ same.
          ap (aged_all now (slot (slice_set segments index (Some after)))) (eqb-true w index same)
          ∙ ap (option_map (aged now)) (slot-set_own segments index (Some after) in_range) ∙ ap Some (settled ∙ is)
          ∙ ap (λ o. option_map change (option_map (aged now) o)) (sym own)
          ∙ ap (λ (x : ℕ). option_map change (aged_all now (slot segments) x)) (sym (eqb-true w index same))
      | false ↦ λ other. ap (option_map (aged now)) (slot-set_other segments index w (Some after) (apart w index other))
    ] refl

-- what a call leaves, where its table is what the change makes of it
pub segments-changed : {moment : ℕ} {segments : List (Option Segment)} {d : Database} {index vid now : ℕ} {s : Segment} (after : Segment) (change : Segment → Segment) → Finds moment segments d index vid now s → after ≡ change (aged now s) → aged now (change (aged now s)) ≡ change (aged now s) → segments_of (database_at now (slice_set segments index (Some after))) ≡ adjusted vid change (aged_all now (segments_of d))
segments-changed {moment} {segments} {d} {index} {vid} {now} {s} after change found is settled =
    let same : aged now after ≡ after = subst (λ (x : Segment). aged now x ≡ x) (sym is) settled in
    segments_of-view now (slice_set segments index (Some after))
    ∙ fun_ext (λ w. slot-changed segments index now s after change w found.in_range found.own is same)
    ∙ ap (λ (i : ℕ). adjusted i change (aged_all now (slot segments))) found.index_is
    ∙ ap (adjusted vid change) (sym (aged_all-found found))

unchanged : (o : Option Segment) → option_map (λ s. s) o ≡ o
unchanged None = refl
unchanged (Some s) = refl

either_way : (b : Bool) (o : Option Segment) → cond b (option_map (λ s. s) o) o ≡ o
either_way true o = unchanged o
either_way false o = refl

-- a call that changes nothing but the moment
pub segments-same : {moment : ℕ} {segments : List (Option Segment)} {d : Database} {index vid now : ℕ} {s : Segment} (after : Segment) → Finds moment segments d index vid now s → after ≡ aged now s → segments_of (database_at now (slice_set segments index (Some after))) ≡ aged_all now (segments_of d)
segments-same {moment} {segments} {d} {index} {vid} {now} {s} after found is =
    segments-changed after (λ x. x) found is (aged-aged now now s (le_refl now)) ∙ fun_ext (λ w. either_way (w == vid) (aged_all now (segments_of d) w))

-- ---- what is live stays live in each change

with_entries : Segment → Table → Segment
with_entries s m = record { limit = s.limit; ageing = s.ageing; entries = m }

entries_settled : (t : ℕ) (s : Segment) → live (nanoseconds s.ageing) t (aged t s).entries ≡ (aged t s).entries
entries_settled t s = live-live (nanoseconds s.ageing) t t s.entries (le_refl t)

pub settled-learn : (t : ℕ) (place : Place) (mac : List ℕ) (s : Segment) → 0 < s.ageing → aged t (learn_in t place mac (aged t s)) ≡ learn_in t place mac (aged t s)
unfolding with_entries
settled-learn t place mac s some_time = ap (with_entries s) (live-learn (nanoseconds s.ageing) t s.limit place mac (aged t s).entries (omega arith) (entries_settled t s))

pub settled-fix : (t : ℕ) (place : Place) (mac : List ℕ) (s : Segment) → aged t (fix_in place mac (aged t s)) ≡ fix_in place mac (aged t s)
unfolding with_entries
settled-fix t place mac s = ap (with_entries s) (live-fix (nanoseconds s.ageing) t s.limit place mac (aged t s).entries (entries_settled t s))

pub settled-unfix : (t : ℕ) (mac : List ℕ) (s : Segment) → aged t (unfix_in mac (aged t s)) ≡ unfix_in mac (aged t s)
unfolding with_entries
settled-unfix t mac s = ap (with_entries s) (live-unfix (nanoseconds s.ageing) t mac (aged t s).entries (entries_settled t s))

pub settled-flush_place : (t : ℕ) (place : Place) (s : Segment) → aged t (flush_place_in place (aged t s)) ≡ flush_place_in place (aged t s)
unfolding with_entries
settled-flush_place t place s = ap (with_entries s) (live-kept (nanoseconds s.ageing) t (λ e. not (is_seen_at place e)) (aged t s).entries (entries_settled t s))

pub settled-flush : (t : ℕ) (s : Segment) → aged t (flush_in (aged t s)) ≡ flush_in (aged t s)
unfolding with_entries
settled-flush t s = ap (with_entries s) (live-kept (nanoseconds s.ageing) t is_fixed (aged t s).entries (entries_settled t s))

pub settled-set_ageing : (t seconds : ℕ) (s : Segment) → aged t (set_ageing_in t seconds (aged t s)) ≡ set_ageing_in t seconds (aged t s)
settled-set_ageing t seconds s = aged-aged t t (record { limit = s.limit; ageing = seconds; entries = (aged t s).entries }) (le_refl t)

-- ---- new tables

-- the first i rules have none for a VID that each of them is apart from
none-take : (rules : List TableRule) (i vid : ℕ) → i ≤ length rules → ((k : ℕ) (d : TableRule) → k < i → (get_or rules k d).vid ≢ vid) → find (λ (r : TableRule). r.vid == vid) (take i rules) ≡ None
none-take [] zero vid h others = refl
none-take [] (suc i) vid h others = refl
none-take (r ∷ rs) zero vid h others = refl
none-take (r ∷ rs) (suc i) vid h others =
    elim (r.vid == vid) as (λ b. (r.vid == vid) ≡ b → cond b (Some r) (find (λ (x : TableRule). x.vid == vid) (take i rs)) ≡ None) [
      | true ↦ λ same. absurd (others 0 r (omega arith) (eqb-true r.vid vid same))
      | false ↦ λ other. none-take rs i vid (omega arith) (λ k d below. others (suc k) d (omega arith))
    ] refl

same_default : (rules : List TableRule) (i : ℕ) (c d : TableRule) → i < length rules → get_or rules i c ≡ get_or rules i d
same_default [] i c d h = absurd (omega arith)
same_default (r ∷ rs) zero c d h = refl
same_default (r ∷ rs) (suc i) c d h = same_default rs i c d (omega arith)

or_none : (o : Option TableRule) → option_or o None ≡ o
or_none None = refl
or_none (Some r) = refl

pub slot-new : (rules : List TableRule) (i : ℕ) (rule : TableRule) (segments : List (Option Segment)) (index w : ℕ) → AreForDistinctVids rules → i < length rules → rule ≡ get_or rules i rule → index ≡ rule.vid → index < length segments → slot segments w ≡ new_segments (take i rules) w → slot (slice_set segments index (Some (new_segment rule))) w ≡ new_segments (take (i + 1) rules) w
slot-new rules i rule segments index w distinct below is index_is in_range before =
    let test : TableRule → Bool = λ r. r.vid == w in
    let more : find test (take (i + 1) rules) ≡ option_or (find test (take i rules)) (cond (rule.vid == w) (Some rule) None) =
    ap (find test) (take_more rules i rule below) ∙ find-append test (take i rules) (get_or rules i rule ∷ [])
    ∙ ap (λ (r : TableRule). option_or (find test (take i rules)) (cond (r.vid == w) (Some r) None)) (sym is) in
    (elim (rule.vid == w) as (λ b. (rule.vid == w) ≡ b → slot (slice_set segments index (Some (new_segment rule))) w ≡ option_map new_segment (option_or (find test (take i rules)) (cond b (Some rule) None))) [
      | true ↦ λ same.
          let own : w ≡ index = sym (index_is ∙ eqb-true rule.vid w same) in
          let none : find test (take i rules) ≡ None = none-take rules i w (omega arith) (λ k d earlier e. distinct k i d earlier below (e ∙ own ∙ index_is ∙ ap (λ (r : TableRule). r.vid) (is ∙ same_default rules i rule d below))) in
          ap (slot (slice_set segments index (Some (new_segment rule)))) own ∙ slot-set_own segments index (Some (new_segment rule)) in_range
          ∙ ap (λ o. option_map new_segment (option_or o (Some rule))) (sym none)
      | false ↦ λ other.
          slot-set_other segments index w (Some (new_segment rule)) (λ same. apart rule.vid w other (sym index_is ∙ sym same))
          ∙ before ∙ ap (option_map new_segment) (sym (or_none (find test (take i rules))))
    ] refl)
    ∙ ap (option_map new_segment) (sym more)

aged_new_one : (t : ℕ) (o : Option TableRule) → option_map (aged t) (option_map new_segment o) ≡ option_map new_segment o
aged_new_one t None = refl
aged_new_one t (Some rule) = ap (λ (m : Table). let new : Segment = record { limit = rule.limit; ageing = rule.ageing; entries = m } in Some new) (kept-empty (is_live (nanoseconds rule.ageing) t))

-- new tables have nothing that could be dead
pub aged-new : (t : ℕ) (rules : List TableRule) (vid : ℕ) → option_map (aged t) (new_segments rules vid) ≡ new_segments rules vid
aged-new t rules vid = aged_new_one t (find (λ (r : TableRule). r.vid == vid) rules)
