-- What a run tells of its tables at a moment.
use Rattle.std.proofs.Common.{◌≡◌, ◌∙◌, refl, sym, ap, ℕ, zero, suc, ◌+◌, ◌-◌, ◌≤◌, max, arith, Bool, true, false, cond, List, [], ◌∷◌, ◌++◌, map, Option, Some, None}
use Rattle.std.specs.Prelude.{nat_lt}
use Rattle.std.specs.List.{flat_map, range_with_len}
use Rattle.std.proofs.lemmas.Bool.{ltb-false}
use Rattle.std.proofs.lemmas.List.{append-nil}
use Rattle.std.proofs.lemmas.Grind.{flat_map-append}
use Rattle.segment_set.specs.Segments.{All}
use Rattle.timeline.specs.Order.{IsRising}
use Rattle.timeline.specs.declared.event.Event.{Event as Happens}
use Rattle.overlay.specs.declared.settings.change.Change.{Change}
use Rattle.overlay.specs.declared.settings.change.TimedChange.{TimedChange}
use Rattle.endpoint_core.specs.Settings.{Settings}
use Rattle.endpoint_core.specs.Step.{State, opened, after, passed, state_after}
use Rattle.capture_run.specs.Outputs.{event_of}
use Rattle.capture_run.proofs.Growing.{rising_events}
use Rattle.table_lines.specs.Lines.{lines_among, segment_lines, shown_at, tables_text}
use Rattle.table_lines.proofs.LineLemmas.{segments_all}
use Rattle.stream_run.specs.Sights.{sights, state_among}
use Rattle.run_reports.specs.Report.{Telling, asked, ended_by}
use Rattle.tenants_apart.specs.Own.{Needs, AreMembers, AreWithin, part_of, own_events, room_replies}
use Rattle.tenants_apart.specs.Reports.{until, told_behind, tables_at, HasLines}
use Rattle.tenants_apart.proofs.Tables.{lines-shown}

-- ---- what is told

-- the tables are still to be told at this moment, or not any more
abbrev telling : List TimedChange → Option ℕ → List ℕ → Telling
telling changes due text = record (asked [] changes All due false) { text = text }

-- behind an event, where the moment is before it, or not
abbrev stepped : List TimedChange → ℕ → State → List ℕ → Bool → Telling
stepped changes moment s text b = telling changes (cond b None (Some moment)) ((text ++ cond b (tables_text All (shown_at (Some moment) s)) []) ++ [])

nothing-added : (text : List ℕ) → (text ++ []) ++ [] ≡ text
nothing-added text = append-nil (text ++ []) ∙ append-nil text

module _ (changes : List TimedChange) (moment : ℕ) where
  abbrev in_order : List Change
  in_order = map (λ (c : TimedChange). c.change) changes

  -- once they are told, nothing more is
  once : (text : List ℕ) (s : State) (count : ℕ) (es : List Happens) (last : State) → (ended_by (told_behind (telling changes None text) (sights All in_order s count es)) last).text ≡ text
  once text s count [] last = append-nil text
  once text s count (e ∷ es) last =
      ap (λ t. (ended_by (told_behind (telling changes None t) (sights All in_order (after s (event_of in_order e)) (count + 1) es)) last).text) (nothing-added text)
      ∙ once text (after s (event_of in_order e)) (count + 1) es last

  at-moment : (s : State) → s.moment ≤ moment → tables_text All (shown_at (Some moment) s) ≡ tables_text All (passed moment s)
  at-moment s le = let latest : max moment s.moment ≡ moment = omega (arith, le) in ap (λ (m : ℕ). tables_text All (passed m s)) latest

  told-due : (text : List ℕ) (s : State) (count : ℕ) (es : List Happens) → s.moment ≤ moment → IsRising s.moment es
      → (ended_by (told_behind (telling changes (Some moment) text) (sights All in_order s count es)) (state_among All in_order s es)).text
      ≡ text ++ tables_text All (passed moment (state_after s (map (event_of in_order) (until moment es))))
  told-due text s count [] le up = ap (λ t. text ++ t) (at-moment s le)
  told-due text s count (e ∷ es) le up =
      by (nat_lt moment e.moment) refl (λ later. told-due text (after s (event_of in_order e)) (count + 1) es later up.1)
    where
      by : (b : Bool) → nat_lt moment e.moment ≡ b
          → (e.moment ≤ moment → (ended_by (told_behind (telling changes (Some moment) text) (sights All in_order (after s (event_of in_order e)) (count + 1) es)) (state_among All in_order (after s (event_of in_order e)) es)).text
          ≡ text ++ tables_text All (passed moment (state_after (after s (event_of in_order e)) (map (event_of in_order) (until moment es)))))
          → (ended_by (told_behind (stepped changes moment s text b) (sights All in_order (after s (event_of in_order e)) (count + 1) es)) (state_among All in_order (after s (event_of in_order e)) es)).text
          ≡ text ++ tables_text All (passed moment (state_after s (map (event_of in_order) (cond b [] (e ∷ until moment es)))))
      by true is next =
          once ((text ++ tables_text All (shown_at (Some moment) s)) ++ []) (after s (event_of in_order e)) (count + 1) es (state_among All in_order (after s (event_of in_order e)) es)
          ∙ append-nil (text ++ tables_text All (shown_at (Some moment) s))
          ∙ ap (λ t. text ++ t) (at-moment s le)
      by false is next =
          ap (λ t. (ended_by (told_behind (telling changes (Some moment) t) (sights All in_order (after s (event_of in_order e)) (count + 1) es)) (state_among All in_order (after s (event_of in_order e)) es)).text) (nothing-added text)
          ∙ next (ltb-false moment e.moment is)

  pub tables-told : (S : Settings) (es : List Happens) → IsRising 0 es
      → tables_at moment S changes es ≡ tables_text All (passed moment (state_after (opened S) (map (event_of in_order) (until moment es))))
  tables-told S es up = told-due [] (opened S) 0 es (omega arith) up

-- ---- the lines of one segment

range-split : (a k n : ℕ) → range_with_len a (k + n) ≡ range_with_len a k ++ range_with_len (a + k) n
range-split a zero n =
    let same : a ≡ a + 0 = omega arith in
    let none : 0 + n ≡ n = omega arith in
    λ i. range_with_len (same i) (none i)
range-split a (suc k) n =
    let one : suc k + n ≡ suc (k + n) = omega arith in
    let next : a + 1 + k ≡ a + suc k = omega arith in
    ap (range_with_len a) one
    ∙ ap (λ l. a ∷ l) (range-split (a + 1) k n ∙ ap (λ b. range_with_len (a + 1) k ++ range_with_len b n) next)

split-at : (s : State) (k n : ℕ) → k + suc n ≡ 4094
    → tables_text All s ≡ flat_map (segment_lines s) (range_with_len 1 k) ++ (segment_lines s (1 + k) ++ flat_map (segment_lines s) (range_with_len (1 + k + 1) n))
split-at s k n all =
    sym (segments_all All s (k + suc n) all)
    ∙ ap (flat_map (lines_among All s)) (range-split 1 k (suc n))
    ∙ flat_map-append (lines_among All s) (range_with_len 1 k) (range_with_len (1 + k) (suc n))

split-by : (s : State) (vid k n : ℕ) → vid ≡ 1 + k → vid + n ≡ 4094
    → tables_text All s ≡ flat_map (segment_lines s) (range_with_len 1 k) ++ (segment_lines s vid ++ flat_map (segment_lines s) (range_with_len (vid + 1) n))
split-by s vid k n is all =
    split-at s k n (omega (arith, is, all))
    ∙ ap (λ v. flat_map (segment_lines s) (range_with_len 1 k) ++ (segment_lines s v ++ flat_map (segment_lines s) (range_with_len (v + 1) n))) (sym is)

has-lines : (s : State) (vid : ℕ) (own text : List ℕ) → 1 ≤ vid → vid ≤ 4094 → own ≡ segment_lines s vid → text ≡ tables_text All s → HasLines vid own text
has-lines s vid own text least most lines is = record {
  state = s;
  lines = lines;
  text_is = is ∙ split-by s vid (vid - 1) (4094 - vid) (omega (arith, least)) (omega (arith, most))
      ∙ ap (λ l. flat_map (segment_lines s) (range_with_len 1 (vid - 1)) ++ (l ++ flat_map (segment_lines s) (range_with_len (vid + 1) (4094 - vid)))) (sym lines);
}

-- ---- two runs

until-rises : (moment least : ℕ) (es : List Happens) → IsRising least es → IsRising least (until moment es)
until-rises moment least [] up = tt
until-rises moment least (e ∷ es) up = by (nat_lt moment e.moment) (until-rises moment e.moment es up.1)
  where
    by : (b : Bool) → IsRising e.moment (until moment es) → IsRising least (cond b [] (e ∷ until moment es))
    by true more = tt
    by false more = (up.0, more)

-- behind what comes up to a moment, it isn't later
until-early : (changes : List Change) (moment : ℕ) (s : State) (es : List Happens) → s.moment ≤ moment → (state_after s (map (event_of changes) (until moment es))).moment ≤ moment
until-early changes moment s [] le = le
until-early changes moment s (e ∷ es) le = by (nat_lt moment e.moment) refl (λ later. until-early changes moment (after s (event_of changes e)) es later)
  where
    by : (b : Bool) → nat_lt moment e.moment ≡ b
        → (e.moment ≤ moment → (state_after (after s (event_of changes e)) (map (event_of changes) (until moment es))).moment ≤ moment)
        → (state_after s (map (event_of changes) (cond b [] (e ∷ until moment es)))).moment ≤ moment
    by true is next = le
    by false is next = next (ltb-false moment e.moment is)

module _ (vid : ℕ) (needs : Needs) (S T : Settings) (cs ds : List TimedChange) (es fs : List Happens) (moment : ℕ) (least : 1 ≤ vid) (most : vid ≤ 4094) (up : IsRising 0 es) (rising : IsRising 0 fs)
    (members : AreMembers vid needs S) (within : AreWithin vid needs S (map (event_of (in_order cs moment)) (until moment es))) (same : part_of vid needs S ≡ part_of vid needs T)
    (events : own_events vid needs S (map (event_of (in_order cs moment)) (until moment es)) ≡ own_events vid needs T (map (event_of (in_order ds moment)) (until moment fs)))
    (replies : room_replies vid S (map (event_of (in_order cs moment)) (until moment es)) ≡ room_replies vid T (map (event_of (in_order ds moment)) (until moment fs))) where
  abbrev mine : State
  mine = passed moment (state_after (opened S) (map (event_of (in_order cs moment)) (until moment es)))

  abbrev theirs : State
  theirs = passed moment (state_after (opened T) (map (event_of (in_order ds moment)) (until moment fs)))

  lines-same : segment_lines mine vid ≡ segment_lines theirs vid
  lines-same =
      lines-shown vid needs S T (map (event_of (in_order cs moment)) (until moment es)) (map (event_of (in_order ds moment)) (until moment fs)) moment
      (rising_events (in_order cs moment) 0 (until moment es) (until-rises moment 0 es up)) (rising_events (in_order ds moment) 0 (until moment fs) (until-rises moment 0 fs rising))
      members within same events replies
      (until-early (in_order cs moment) moment (opened S) es (omega arith)) (until-early (in_order ds moment) moment (opened T) fs (omega arith))

  pub own-lines : (own : List ℕ) × HasLines vid own (tables_at moment S cs es) × HasLines vid own (tables_at moment T ds fs)
  own-lines = (
    segment_lines mine vid,
    has-lines mine vid (segment_lines mine vid) (tables_at moment S cs es) least most refl (tables-told cs moment S es up),
    has-lines theirs vid (segment_lines mine vid) (tables_at moment T ds fs) least most lines-same (tables-told ds moment T fs rising),
  )
