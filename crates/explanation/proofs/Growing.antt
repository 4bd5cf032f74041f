-- The text that grows packet by packet is that of the whole capture.
use Rattle.std.proofs.Common.{◌≡◌, ◌∙◌, refl, ap, ℕ, ◌+◌, arith, List, [], ◌∷◌, ◌++◌, map, Result, Ok, Err}
use Rattle.std.specs.List.{AllByRecursion, flat_map, zip}
use Rattle.wire.specs.declared.ether.reason.Refused.{Refused}
use Rattle.overlay.specs.Overlay.{Overlay}
use Rattle.timeline.specs.Events.{IsEventOf, HappensIn}
use Rattle.timeline.specs.Order.{IsRising}
use Rattle.timeline.specs.Timeline.{Timeline}
use Rattle.timeline.specs.declared.event.Event.{Event as Happens}
use Rattle.timeline.specs.declared.event.Happening.{Happening}
use Rattle.timeline.specs.declared.event.Happening.TheVariants.{Change, Record}
use Rattle.timeline.specs.declared.source.Tap.TheVariants.{Port, Underlay}
use Rattle.endpoint_core.specs.Settings.{Settings}
use Rattle.endpoint_core.specs.State.{State as Bridges, aged}
use Rattle.endpoint_core.specs.Event as event
use Rattle.endpoint_core.specs.Arrival.{came_at, came_by}
use Rattle.endpoint_core.specs.Arrival.{Arrival}
use Rattle.endpoint_core.specs.Step.{Answer, State, opened, answer, answers, after, after_came, bridges_after}
use Rattle.endpoint_core.proofs.Runs.{answers-decisions}
use Rattle.decision_lines.specs.Lines.{cut_line}
use Rattle.capture_run.specs.Outputs.{event_of, input_of}
use Rattle.explanation.specs.declared.text.Values.{Values}
use Rattle.explanation.specs.Explanation.{event_text, event_texts, explanation}
use Rattle.explanation.specs.Growing.{texts_from}

came_overlay : (t : ℕ) (B : Bridges) (came : Result Arrival Refused) → (after_came t B came).settings.overlay ≡ B.settings.overlay
came_overlay t B (Ok x) = refl
came_overlay t B (Err refused) = refl

-- a packet leaves the settings of the underlay and the segments as they are
overlay_stays : (s : State) (e : Happens) → IsEventOf 0 0 e → (after s (event_of [] e)).bridges.settings.overlay ≡ s.bridges.settings.overlay
overlay_stays s e known = go e.happening known
  where
    go : (h : Happening) → HappensIn 0 0 e.moment h → (bridges_after e.moment (aged e.moment s.bridges) (input_of [] h)).settings.overlay ≡ s.bridges.settings.overlay
    go (Change index) known = absurd (omega arith)
    go (Record (Port port) c) known = came_overlay e.moment (aged e.moment s.bridges) (came_at s.bridges.settings.ports s.bridges.settings.overlay port c.original c.octets)
    go (Record Underlay c) known = came_overlay e.moment (aged e.moment s.bridges) (came_by s.bridges.settings.overlay c.original c.octets)

texts_grown : (depth : ℕ) (values : Values) (count : ℕ) (s : State) (overlay : Overlay) (es : List Happens) → s.bridges.settings.overlay ≡ overlay → AllByRecursion (IsEventOf 0 0) es
    → texts_from depth values count s es ≡ event_texts overlay depth values count (zip es (answers s (map (event_of []) es)))
texts_grown depth values count s overlay [] same known = refl
texts_grown depth values count s overlay (e ∷ es) same known =
    let next = after s (event_of [] e) in
    let row : Happens × Answer = (e, answer s (event_of [] e)) in
    ap (λ (o : Overlay). event_text o depth values (count + 1) row ++ texts_from depth values (count + 1) next es) same
    ∙ ap (λ (x : List ℕ). event_text overlay depth values (count + 1) row ++ x) (texts_grown depth values (count + 1) next overlay es (overlay_stays s e known.0 ∙ same) known.1)

rising_events : (t : ℕ) (es : List Happens) → IsRising t es → event.IsRising t (map (event_of []) es)
rising_events t [] h = tt
rising_events t (e ∷ es) h = (h.0, rising_events e.moment es h.1)

-- all of a capture
pub explanation_grown : (S : Settings) (depth : ℕ) (values : Values) (timeline : Timeline) → IsRising 0 timeline.events → AllByRecursion (IsEventOf 0 0) timeline.events
    → texts_from depth values 0 (opened S) timeline.events ++ flat_map cut_line timeline.cuts ≡ explanation S depth values timeline
explanation_grown S depth values timeline rising known =
    let es = timeline.events in
    let events = map (event_of []) es in
    ap (λ (x : List ℕ). x ++ flat_map cut_line timeline.cuts) (
    texts_grown depth values 0 (opened S) S.overlay es refl known
    ∙ ap (λ as_answered. event_texts S.overlay depth values 0 (zip es as_answered)) (answers-decisions S [] events (rising_events 0 es rising))
    )
