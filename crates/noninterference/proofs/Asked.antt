-- What comes from the changes is these.
use Rattle.std.proofs.Common.{◌≡◌, ◌∙◌, refl, sym, ap, subst, ℕ, ◌+◌, max, arith, Bool, List, [], ◌∷◌, ◌++◌, append_assoc, map, filter, length, slice_index_or}
use Rattle.std.specs.List.{flat_map}
use Rattle.pcap.specs.Record.{Record}
use Rattle.timeline.proofs.Orders.{rising_stays}
use Rattle.timeline.specs.Events.{all_events, change_events, events_of, record_events}
use Rattle.timeline.specs.Inputs.{inputs, opened_captures}
use Rattle.timeline.specs.Order.{IsRising, merged}
use Rattle.timeline.specs.Timeline.{Timeline}
use Rattle.timeline.specs.Words.{source_of}
use Rattle.timeline.specs.declared.capture.Opened.{Opened}
use Rattle.timeline.specs.declared.event.Event.{Event as Happens}
use Rattle.timeline.specs.declared.event.Happening.TheVariants as happenings
use Rattle.timeline.specs.declared.source.Source.TheVariants as sources
use Rattle.timeline.specs.declared.source.Tap.{Tap}
use Rattle.overlay.specs.Settings.{Settings as Told}
use Rattle.overlay.specs.declared.settings.change.Change.{Change}
use Rattle.overlay.specs.declared.settings.change.TimedChange.{TimedChange}
use Rattle.endpoint_core.specs.Event.{change_at}
use Rattle.capture_run.specs.Outputs.{Outputs, event_of, input_of, no_change}
use Rattle.noninterference.specs.Coming as coming
use Rattle.noninterference.specs.Coming.{Inputs, IsRunOf, AreChangesTold, ChangesNeverFall, changes_of, is_source}
use Rattle.noninterference.proofs.Lists.{filter-agree, filter-map}
use Rattle.noninterference.proofs.Merging.{same_source, told_events}

-- ---- of all events the changes

abbrev is_change : Happens → Bool
is_change e = is_source sources.Changes (source_of e.happening)

no_records : (tap : Tap) (count latest : ℕ) (rs : List Record) (rest : List Happens) → filter is_change (record_events tap count latest rs ++ rest) ≡ filter is_change rest
no_records tap count latest [] rest = refl
no_records tap count latest (r ∷ rs) rest = no_records tap (count + 1) (max r.moment latest) rs rest

no_captures : (cs : List Opened) → filter is_change (flat_map events_of cs) ≡ []
no_captures [] = refl
no_captures (c ∷ cs) = no_records c.tap 0 0 c.capture.records (flat_map events_of cs) ∙ no_captures cs

changes_kept : (index : ℕ) (moments : List ℕ) (rest : List Happens) → filter is_change rest ≡ [] → filter is_change (change_events index moments ++ rest) ≡ change_events index moments
changes_kept index [] rest none = none
changes_kept index (m ∷ ms) rest none =
    ap (λ l. (let e : Happens = record { moment = m; number = index + 1; happening = happenings.Change index } in e) ∷ l) (changes_kept (index + 1) ms rest none)

rising_changes : (index least : ℕ) (cs : List TimedChange) → ChangesNeverFall least cs → IsRising least (change_events index (map (λ c. c.at) cs))
rising_changes index least [] h = tt
rising_changes index least (c ∷ cs) h = (h.0, rising_changes (index + 1) c.at cs h.1)

-- ---- each by its number

at-behind : (before : List Change) (c : Change) (rest : List Change) → slice_index_or (before ++ c ∷ rest) (length before) no_change ≡ c
at-behind [] c rest = refl
at-behind (b ∷ before) c rest = at-behind before c rest

one_more : (before : List Change) (c : Change) → length (before ++ c ∷ []) ≡ length before + 1
one_more [] c = refl
one_more (b ∷ before) c = let rest = one_more before c in omega (arith, rest)

asked : (before : List Change) (index : ℕ) (cs : List TimedChange) → index ≡ length before
    → map (event_of (before ++ map (λ c. c.change) cs)) (change_events index (map (λ c. c.at) cs)) ≡ map (λ c. change_at c.at c.change) cs
asked before index [] is = refl
asked before index (c ∷ cs) is =
    let all = before ++ c.change ∷ map (λ t. t.change) cs in
    let behind = map (event_of all) (change_events (index + 1) (map (λ t. t.at) cs)) in
    let next : index + 1 ≡ length (before ++ c.change ∷ []) = omega (arith, is, one_more before c.change) in
    ap (λ n. change_at c.at (slice_index_or all n no_change) ∷ behind) is
    ∙ ap (λ t. change_at c.at t ∷ behind) (at-behind before c.change (map (λ t. t.change) cs))
    ∙ ap (λ l. change_at c.at c.change ∷ map (event_of l) (change_events (index + 1) (map (λ t. t.at) cs))) (sym (append_assoc before (c.change ∷ []) (map (λ t. t.change) cs)))
    ∙ ap (λ l. change_at c.at c.change ∷ l) (asked (before ++ c.change ∷ []) (index + 1) cs next)

-- ---- in a run

pub changes-told : (s : Told) (x : Inputs) (l : Timeline) (o : Outputs) → IsRunOf s x l o → AreChangesTold x l
changes-told s x l o is never =
    let moments = map (λ (c : TimedChange). c.at) x.changes in
    let captures = opened_captures (inputs x.ports x.underlay) in
    let all = all_events moments captures in
    let here : filter is_change all ≡ change_events 0 moments = changes_kept 0 moments (flat_map events_of captures) (no_captures captures) in
    let stays : filter is_change (merged all) ≡ filter is_change all = rising_stays is_change all (subst (IsRising 0) (sym here) (rising_changes 0 0 x.changes never)) in
    filter-map (λ e. is_source sources.Changes (coming.source_of e.input)) (event_of (changes_of x)) l.events
    ∙ ap (map (event_of (changes_of x)))
    (filter-agree (λ (e : Happens). is_source sources.Changes (coming.source_of (input_of (changes_of x) e.happening))) is_change
    (λ e. ap (is_source sources.Changes) (same_source (changes_of x) e.happening)) l.events
    ∙ ap (filter is_change) (sym (told_events moments x.ports x.underlay l is.read))
    ∙ stays
    ∙ here)
    ∙ asked [] 0 x.changes refl
