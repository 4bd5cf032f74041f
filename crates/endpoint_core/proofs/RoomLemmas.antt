-- How many segments there are and what their limits come to, by the settings, by the tables and by the underlay.
use Rattle.std.proofs.Common.{◌≡◌, ℕ, ◌+◌, ◌<◌, ◌≤◌, ◌==◌, Bool, true, false, cond, T, List, [], ◌∷◌, length, Option, Some, None, refl, sym, ap, ◌∙◌, arith}
use Rattle.std.specs.Prelude.{is_some, nat_lt}
use Rattle.std.specs.Option.{option_map}
use Rattle.std.specs.Ordering.{nat_cmp, eq_by_cmp, is_eq}
use Rattle.std.specs.Cmp.{unsigned_tied}
use Rattle.std.specs.FinMap.{find, is_sorted, entries, entries_sorted, get-entries, len, len-entries}
use Rattle.std.specs.FinMap.Entries.{below_all}
use Rattle.std.proofs.lemmas.Bool.{eq-eqb, false≢true}
use Rattle.std.proofs.lemmas.Bool.Decides.{nat_tests}
use Rattle.filter_db.specs.declared.tables.TableRule.{TableRule}
use Rattle.filter_db.specs.Segment.{Segment, Segments, no_segment, new_segment}
use Rattle.filter_db.specs.Standing.{limit_in, sum_of_limits, segment_count, added}
use Rattle.filter_db.proofs.StandingLemmas.{sum_of_limits-same, segment_count-same, segment_count-added}
use Rattle.overlay.specs.Ports.{Ports}
use Rattle.overlay.specs.Overlay.{Overlay}
use Rattle.overlay.proofs.SearchLemmas.{first_part, second_part, is_less}
use Rattle.endpoint_core.specs.Learning.{learns}
use Rattle.endpoint_core.specs.Settings.{tables_asked}
use Rattle.endpoint_core.specs.Sound.{AreSound}
use Rattle.endpoint_core.specs.State.{bridge_of, settings_by}

-- ---- by the settings and by the tables

limit-asked : (learning : Bool) (o : Option Segment) → limit_in (option_map (λ b. record { limit = b.limit; ageing = b.ageing; entries = no_segment.entries }) (option_map (bridge_of learning) o)) ≡ limit_in o
limit-asked learning None = refl
limit-asked learning (Some s) = refl

is_some-asked : (learning : Bool) (o : Option Segment) → is_some (option_map (λ b. let s : Segment = record { limit = b.limit; ageing = b.ageing; entries = no_segment.entries } in s) (option_map (bridge_of learning) o)) ≡ is_some o
is_some-asked learning None = refl
is_some-asked learning (Some s) = refl

pub sum-asked : (ports : Ports) (overlay : Overlay) (learning : List Bool) (pool : ℕ) (segments : Segments) → sum_of_limits (tables_asked (settings_by ports overlay learning pool segments)) ≡ sum_of_limits segments
sum-asked ports overlay learning pool segments = sum_of_limits-same (tables_asked (settings_by ports overlay learning pool segments)) segments (λ vid. limit-asked (learns learning vid) (segments vid))

pub count-asked : (ports : Ports) (overlay : Overlay) (learning : List Bool) (pool : ℕ) (segments : Segments) → segment_count (tables_asked (settings_by ports overlay learning pool segments)) ≡ segment_count segments
count-asked ports overlay learning pool segments = segment_count-same (tables_asked (settings_by ports overlay learning pool segments)) segments (λ vid. is_some-asked (learns learning vid) (segments vid))

-- with what is left of the pool
pub too_much : (room sum limit pool : ℕ) → room + sum ≡ pool → nat_lt pool (sum + limit) ≡ nat_lt room limit
too_much room sum limit pool is = grind (arith, nat_tests, is)

-- ---- by the underlay and by the tables

-- a key below all keys isn't found
absent_below : {X : Type 0} (k : ℕ) (es : List (ℕ × X)) → T (below_all nat_cmp k es) → find nat_cmp k es ≡ None
absent_below k [] below = refl
absent_below k (e ∷ es) below = ap (λ r. cond (is_eq r) (Some e.1) (find nat_cmp k es)) (is_less _ (first_part _ _ below)) ∙ absent_below k es (second_part _ _ below)

-- a table for each key
abbrev keyed : {X : Type 0} → List (ℕ × X) → Segments
keyed es = λ w. option_map (λ x. no_segment) (find nat_cmp w es)

keyed_own : {X : Type 0} (b : Bool) (x : X) (o : Option X) → b ≡ true → is_some (cond b (Some x) o) ≡ true
keyed_own true x o is = refl
keyed_own false x o is = absurd (false≢true is)

keyed_behind : {X : Type 0} (b : Bool) (x : X) (o : Option X) → is_some o ≡ true → is_some (cond b (Some x) o) ≡ true
keyed_behind true x o there = refl
keyed_behind false x o there = there

keyed_either : {X : Type 0} (b : Bool) (x : X) (o : Option X) (s : Segment) → is_some (option_map (λ y. no_segment) (cond b (Some x) o)) ≡ is_some (cond b (Some s) (option_map (λ y. no_segment) o))
keyed_either true x o s = refl
keyed_either false x o s = refl

keys_counted : {X : Type 0} (es : List (ℕ × X)) → T (is_sorted nat_cmp es) → ((k : ℕ) → is_some (find nat_cmp k es) ≡ true → k < 4096) → length es ≤ segment_count (keyed es)
keys_counted [] sorted few = omega arith
keys_counted (e ∷ es) sorted few =
    let rule : TableRule = record { vid = e.0; limit = 1; ageing = 10 } in
    let absent : keyed es e.0 ≡ None = ap (option_map (λ x. no_segment)) (absent_below e.0 es (first_part _ _ sorted)) in
    let own : is_some (find nat_cmp e.0 (e ∷ es)) ≡ true = keyed_own (eq_by_cmp nat_cmp e.0 e.0) e.1 (find nat_cmp e.0 es) (unsigned_tied e.0 e.0 ∙ eq-eqb e.0 e.0 refl) in
    let rest = keys_counted es (second_part _ _ sorted) (λ k there. few k (keyed_behind (eq_by_cmp nat_cmp k e.0) e.1 (find nat_cmp k es) there)) in
    let more : segment_count (added rule (keyed es)) ≡ segment_count (keyed es) + 1 = segment_count-added rule (keyed es) (few e.0 own) absent in
    let same : segment_count (keyed (e ∷ es)) ≡ segment_count (added rule (keyed es)) = segment_count-same (keyed (e ∷ es)) (added rule (keyed es))
    (λ w. ap (λ (b : Bool). is_some (option_map (λ x. no_segment) (cond b (Some e.1) (find nat_cmp w es)))) (unsigned_tied w e.0)
    ∙ keyed_either (w == e.0) e.1 (find nat_cmp w es) (new_segment rule)) in
    omega (arith, rest, more, same)

-- the underlay has no more segments than the tables
pub few-under : (ports : Ports) (overlay : Overlay) (segments : Segments) → AreSound ports overlay segments → len overlay.segments ≤ segment_count segments
few-under ports overlay segments sound =
    let same : segment_count (keyed (entries overlay.segments)) ≡ segment_count segments = segment_count-same (keyed (entries overlay.segments)) segments (λ w. mapped (find nat_cmp w (entries overlay.segments)) ∙ ap is_some (sym (get-entries overlay.segments w)) ∙ sound.tunnels w) in
    let counted = keys_counted (entries overlay.segments) (entries_sorted overlay.segments) (λ k there. below (sound.vids k (sym (sound.tunnels k) ∙ ap is_some (get-entries overlay.segments k) ∙ there)).1) in
    let length_is = len-entries overlay.segments in
    omega (arith, counted, same, length_is)
  where
    mapped : {X : Type 0} (o : Option X) → is_some (option_map (λ x. no_segment) o) ≡ is_some o
    mapped None = refl
    mapped (Some x) = refl

    below : {n : ℕ} → n ≤ 4094 → n < 4096
    below h = omega arith
