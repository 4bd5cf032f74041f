-- Parts put together are the whole run.
use Rattle.std.proofs.Common.{◌≡◌, ◌≤◌, ◌<◌, ℕ, ◌+◌, ◌==◌, arith, Bool, true, false, cond, List, [], ◌∷◌, map, filter, length, Option, None, Result, Ok, Err, sym, ap, ◌∙◌, subst}
use Rattle.std.specs.Prelude.{sum}
use Rattle.std.specs.List.{AllByRecursion, zip}
use Rattle.timeline.proofs.Orders.{rising_merged}
use Rattle.timeline.specs.Events.{all_events}
use Rattle.timeline.specs.Inputs.{inputs, opened_captures}
use Rattle.timeline.specs.Order.{IsRising as AreInOrder}
use Rattle.timeline.specs.Timeline.{Timeline, told}
use Rattle.timeline.specs.declared.fault.TimelineFault.{TimelineFault}
use Rattle.timeline.specs.declared.event.Event.{Event as Happens}
use Rattle.overlay.specs.Rules.{MeetsRules}
use Rattle.overlay.specs.Settings.{Settings as Rules}
use Rattle.overlay.specs.declared.settings.change.Change.{Change}
use Rattle.overlay.specs.declared.settings.change.TimedChange.{TimedChange}
use Rattle.endpoint_core.specs.Opened.{settings_told}
use Rattle.endpoint_core.specs.Settings.{Settings}
use Rattle.endpoint_core.specs.Counts.{Counts}
use Rattle.endpoint_core.specs.Event.{Event}
use Rattle.endpoint_core.specs.Step.{Answer, opened, state_after}
use Rattle.endpoint_core.specs.Run.{decisions}
use Rattle.capture_run.specs.Run.{by_timeline}
use Rattle.capture_run.specs.declared.fault.RunFault.TheVariants.{PortCount}
use Rattle.capture_run.specs.Outputs.{Outputs, event_of, outputs}
use Rattle.noninterference.specs.Coming.{Inputs, IsRunOf, changes_of}
use Rattle.noninterference.proofs.Lists.{all-each}
use Rattle.noninterference.proofs.Merging.{told_events}
use Rattle.noninterference.proofs.Octets.{outputs_given}
use Rattle.segment_set.specs.Segments.{Segments, holds}
use Rattle.capture_run.specs.Among.{cuts_among, outputs_among, by_timeline_among, run_among}
use Rattle.part_merge.specs.Merged.{IsRising, texts_of_pieces, side_by_side, merged}
use Rattle.segment_parts.specs.Pieces.{Told, told_from, pieces_of, all_pieces, pieces_in, IsAsked, PartAll, HasVids, NamesVid, state_among}
use Rattle.segment_parts.proofs.Parting.{AreRising, merged-whole, cuts-whole, sum-one}
use Rattle.segment_parts.proofs.Telling.{counts-kept}
use Rattle.segment_parts.proofs.Vids.{told-asked, vids-told}
use Rattle.segment_parts.proofs.Running.{written-part}
use Rattle.segment_parts.proofs.Writing.{written-whole}

-- ---- the numbers of pieces rise

behind-told : (changes : List Change) (k count : ℕ) (rows : List (Happens × Answer)) → k ≤ count → AllByRecursion (λ (t : Told). k < t.piece.number) (told_from changes count rows)
behind-told changes k count [] h = tt
behind-told changes k count (row ∷ rows) h = (omega (arith, h), behind-told changes k (count + 1) rows (omega (arith, h)))

rising-told : (changes : List Change) (count : ℕ) (rows : List (Happens × Answer)) → AreRising (told_from changes count rows)
rising-told changes count [] = tt
rising-told changes count (row ∷ rows) = (behind-told changes (count + 1) (count + 1) rows (omega arith), rising-told changes (count + 1) rows)

-- those of a part, behind a number below them all
rising-part : (segments : Segments) (k : ℕ) (ts : List Told) → AllByRecursion (λ (t : Told). k < t.piece.number) ts → AreRising ts → IsRising k (pieces_in segments ts)
rising-part segments k [] later rising = tt
rising-part segments k (t ∷ ts) later rising =
    by (holds segments t.segment) (rising-part segments t.piece.number ts rising.0 rising.1) (rising-part segments k ts later.1 rising.1)
  where
    rest : List Told
    rest = filter (λ (u : Told). holds segments u.segment) ts

    by : (b : Bool) → IsRising t.piece.number (all_pieces rest) → IsRising k (all_pieces rest) → IsRising k (all_pieces (cond b (t ∷ rest) rest))
    by true held apart = (later.0, held)
    by false held apart = apart

-- and all
rising-all : (k : ℕ) (ts : List Told) → AllByRecursion (λ (t : Told). k < t.piece.number) ts → AreRising ts → IsRising k (all_pieces ts)
rising-all k [] later rising = tt
rising-all k (t ∷ ts) later rising = (later.0, rising-all t.piece.number ts rising.0 rising.1)

-- the rows of a run, from its first event on
rows_of : Settings → List Change → Timeline → List (Happens × Answer)
rows_of S changes timeline = zip timeline.events (decisions S [] (map (event_of changes) timeline.events))

pub part-rises : (segments : Segments) (S : Settings) (changes : List Change) (timeline : Timeline) → IsRising 0 (pieces_in segments (pieces_of S changes timeline))
unfolding rows_of
part-rises segments S changes timeline =
    rising-part segments 0 (pieces_of S changes timeline) (behind-told changes 0 0 (rows_of S changes timeline) (omega arith)) (rising-told changes 0 (rows_of S changes timeline))

whole-rises : (S : Settings) (changes : List Change) (timeline : Timeline) → IsRising 0 (all_pieces (pieces_of S changes timeline))
unfolding rows_of
whole-rises S changes timeline =
    rising-all 0 (pieces_of S changes timeline) (behind-told changes 0 0 (rows_of S changes timeline) (omega arith)) (rising-told changes 0 (rows_of S changes timeline))

-- ---- together

pub pieces-merged : (parts : List Segments) (S : Settings) (changes : List Change) (timeline : Timeline) → PartAll parts → HasVids S → AllByRecursion NamesVid changes
    → merged (map (λ (part : Segments). pieces_in part (pieces_of S changes timeline)) parts) ≡ all_pieces (pieces_of S changes timeline)
pieces-merged parts S changes timeline parted h all =
    let es = timeline.events in
    merged-whole parts (pieces_of S changes timeline) (rising-told changes 0 (zip es (decisions S [] (map (event_of changes) es))))
    (all-each (λ (t : Told). IsAsked t.segment) _ (λ (t : Told) asked. parted t.segment asked) (pieces_of S changes timeline) (told-asked S changes h all es))

-- so no two parts have a number in common
pub merged-rises : (parts : List Segments) (S : Settings) (changes : List Change) (timeline : Timeline) → PartAll parts → HasVids S → AllByRecursion NamesVid changes
    → IsRising 0 (merged (map (λ (part : Segments). pieces_in part (pieces_of S changes timeline)) parts))
merged-rises parts S changes timeline parted h all = subst (IsRising 0) (sym (pieces-merged parts S changes timeline parted h all)) (whole-rises S changes timeline)

pub outputs-merged : (parts : List Segments) (S : Settings) (changes : List Change) (n : ℕ) (timeline : Timeline) → PartAll parts → HasVids S → AllByRecursion NamesVid changes
    → texts_of_pieces n (merged (map (λ (part : Segments). pieces_in part (pieces_of S changes timeline)) parts)) (side_by_side (map (λ (part : Segments). cuts_among part timeline.cuts) parts))
    ≡ outputs S changes n timeline
outputs-merged parts S changes n timeline parted h all =
    (λ i. texts_of_pieces n (pieces-merged parts S changes timeline parted h all i) (cuts-whole parts timeline.cuts (parted None tt) i))
    ∙ sym (written-whole S changes n timeline)

pub counts-sum : (parts : List Segments) (S : Settings) (es : List Event) → PartAll parts → (segment : Option ℕ) (number : ℕ) → IsAsked segment
    → sum (map (λ (part : Segments). (state_among part (opened S) es).counts segment number) parts) ≡ (state_after (opened S) es).counts segment number
counts-sum parts S es parted segment number asked =
    sum-one parts segment (λ (part : Segments). (state_among part (opened S) es).counts segment number) ((state_after (opened S) es).counts segment number)
    (λ part. ap (λ (f : Counts). f segment number) (counts-kept part S es)) (parted segment asked)

-- ---- a run over captures

timeline-rises : (s : Rules) (x : Inputs) (timeline : Timeline) (o : Outputs) → IsRunOf s x timeline o → AreInOrder 0 timeline.events
timeline-rises s x timeline o is =
    let moments = map (λ (c : TimedChange). c.at) x.changes in
    subst (AreInOrder 0) (told_events moments x.ports x.underlay timeline is.read) (rising_merged (all_events moments (opened_captures (inputs x.ports x.underlay))))

part-by : (segments : Segments) (s : Rules) (changes : List TimedChange) (n : ℕ) (b : Bool) (found : Result Timeline TimelineFault) (timeline : Timeline) (o texts : Outputs) → found ≡ Ok timeline
    → cond b (by_timeline s changes n found) (Err PortCount) ≡ Ok o → outputs_among segments (settings_told s) (map (λ (c : TimedChange). c.change) changes) n timeline ≡ texts
    → cond b (by_timeline_among segments s changes n found) (Err PortCount) ≡ Ok texts
part-by segments s changes n true found timeline o texts is gives same = ap (by_timeline_among segments s changes n) is ∙ ap Ok same
part-by segments s changes n false found timeline o texts is gives same = absurd cc

pub part-of_run : (segments : Segments) (s : Rules) (x : Inputs) (timeline : Timeline) (o : Outputs) → IsRunOf s x timeline o
    → run_among segments (Ok s) (Ok x.changes) x.ports x.underlay
    ≡ Ok (texts_of_pieces (length x.ports) (pieces_in segments (pieces_of (settings_told s) (changes_of x) timeline)) (cuts_among segments timeline.cuts))
part-of_run segments s x timeline o is =
    part-by segments s x.changes (length x.ports) (length x.ports == length s.ports) (told (map (λ (c : TimedChange). c.at) x.changes) x.ports x.underlay) timeline o _ is.read is.outputs
    (written-part segments (settings_told s) (changes_of x) (length x.ports) timeline (timeline-rises s x timeline o is))

pub run-merged : (parts : List Segments) (s : Rules) (x : Inputs) (timeline : Timeline) (o : Outputs) → IsRunOf s x timeline o → PartAll parts → MeetsRules s → AllByRecursion NamesVid (changes_of x)
    → texts_of_pieces (length x.ports) (merged (map (λ (part : Segments). pieces_in part (pieces_of (settings_told s) (changes_of x) timeline)) parts)) (side_by_side (map (λ (part : Segments). cuts_among part timeline.cuts) parts))
    ≡ o
run-merged parts s x timeline o is parted rules all =
    outputs-merged parts (settings_told s) (changes_of x) (length x.ports) timeline parted (vids-told s rules) all ∙ sym (outputs_given s x timeline o is)
