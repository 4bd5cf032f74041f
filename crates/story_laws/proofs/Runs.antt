-- Whole runs: their objects and their lines are about the same events.
use Rattle.std.proofs.Common.{◌≡◌, ℕ, ◌+◌, Bool, true, false, cond, Option, Some, None, refl, sym, ap, ◌∙◌}
use Rattle.std.proofs.Common.{List, [], ◌∷◌, ◌++◌, map, get_or, drop, append_assoc}
use Rattle.std.specs.List.{flat_map}
use Rattle.std.specs.Option.{option_map_or}
use Rattle.std.proofs.lemmas.Grind.{flat_map-append}
use Rattle.std.proofs.lemmas.List.{append-nil}
use Rattle.std.proofs.lemmas.List.Folds.{flat_map-map}
use Rattle.overlay.specs.declared.settings.change.TimedChange.{TimedChange}
use Rattle.segment_set.specs.Segments.{Segments}
use Rattle.filter_db.specs.declared.place.Place.{Place}
use Rattle.filter_db.specs.declared.place.Place.TheVariants.{Local, Remote}
use Rattle.timeline.specs.Timeline.{Timeline}
use Rattle.timeline.specs.declared.event.Event.{Event}
use Rattle.endpoint_core.specs.Settings.{Settings}
use Rattle.endpoint_core.specs.Among.{after_among, is_told}
use Rattle.endpoint_core.specs.Decision.{Sent}
use Rattle.endpoint_core.specs.Step.{Answer, Decided, Replied, State, answer, opened}
use Rattle.decision_lines.specs.Lines.{answer_text, cut_line, line}
use Rattle.capture_run.specs.Among.{cuts_among, with_events_among}
use Rattle.capture_run.specs.Outputs.{Outputs, event_of}
use Rattle.capture_run.specs.Sendings.{Sending, sending_of}
use Rattle.capture_run.specs.Writing.{empty_outputs, with_all_sent, with_answer, with_event, with_record, with_sending, with_sent}
use Rattle.capture_run.proofs.Growing.{cuts_more}
use Rattle.stream_run.specs.Sights.{Sight, answered, due, sights, untold}
use Rattle.stream_run.specs.Steps.{changes_of}
use Rattle.decision_objects.specs.Objects.{cut_object}
use Rattle.decision_objects.specs.Onlooking.{named_in}
use Rattle.decision_objects.specs.Run.{objects_of, reply_object}
use Rattle.story_laws.specs.ReadBack.{OfCut, OfEvent, Subject, line_about, object_about}
use Rattle.story_laws.specs.WholeRuns.{RunsReadBack, lines_among, objects_among}
use Rattle.story_laws.proofs.Outputs.{outputs}

-- ---- what was seen

-- an event that is told, in front of others
told_before : List TimedChange → ℕ → Event → Option Answer → List Subject → List Subject
told_before changes number e (Some a) more = OfEvent number e (named_in changes e) a ∷ more
told_before changes number e None more = more

-- the events that are told
told : List TimedChange → List Sight → List Subject
told changes [] = []
told changes (s ∷ seen) = told_before changes s.number s.event s.reply (told changes seen)

objects_told : (changes : List TimedChange) (seen : List Sight) → objects_of changes seen ≡ flat_map object_about (told changes seen)
unfolding told told_before
objects_told changes [] = refl
objects_told changes (s ∷ seen) = by s.reply (objects_told changes seen)
  where
    by : (reply : Option Answer) → objects_of changes seen ≡ flat_map object_about (told changes seen)
        → reply_object changes s.number s.event reply ++ objects_of changes seen
        ≡ flat_map object_about (told_before changes s.number s.event reply (told changes seen))
    by (Some a) more = ap (λ t. object_about (OfEvent s.number s.event (named_in changes s.event) a) ++ t) more
    by None more = more

-- ---- the decision lines of outputs

record_keeps : (o : Outputs) (place : Place) (text : List ℕ) → (with_record o place text).decisions ≡ o.decisions
record_keeps o (Local port) text = refl
record_keeps o (Remote kind addr) text = refl

sending_keeps : (o : Outputs) (sending : Option Sending) → (option_map_or (with_sending o) sending o).decisions ≡ o.decisions
sending_keeps o (Some s) = record_keeps o s.place _
sending_keeps o None = refl

sent_keeps : (moment : ℕ) (o : Outputs) (outcomes : List Sent) → (with_all_sent moment o outcomes).decisions ≡ o.decisions
sent_keeps moment o [] = refl
sent_keeps moment o (outcome ∷ outcomes) =
    sent_keeps moment (with_sent moment o outcome) outcomes ∙ sending_keeps o (sending_of moment outcome)

answer_keeps : (moment : ℕ) (o : Outputs) (a : Answer) → (with_answer moment o a).decisions ≡ o.decisions
answer_keeps moment o (Decided d) = sent_keeps moment o d.outcomes
answer_keeps moment o (Replied fault) = refl

-- events add the lines of those that are told
lines_told : (segments : Segments) (changes : List TimedChange) (count : ℕ) (s : State) (o : Outputs) (es : List Event)
    → (with_events_among segments (changes_of changes) count s o es).decisions
    ≡ o.decisions ++ flat_map line_about (told changes (sights segments (changes_of changes) s count es))
unfolding told told_before
lines_told segments changes count s o [] = sym (append-nil o.decisions)
lines_told segments changes count s o (e ∷ es) =
    by (is_told segments s (event_of (changes_of changes) e))
    (λ p. lines_told segments changes (count + 1) (after_among segments s (event_of (changes_of changes) e)) p es)
  where
    next : State
    next = after_among segments s (event_of (changes_of changes) e)

    a : Answer
    a = answer s (event_of (changes_of changes) e)

    seen : List Sight
    seen = sights segments (changes_of changes) next (count + 1) es

    this : List ℕ
    this = line (count + 1) e (answer_text (named_in changes e) a)

    with_it : Outputs
    with_it = with_event (changes_of changes) (count + 1) o e a

    by : (b : Bool)
        → ((p : Outputs) → (with_events_among segments (changes_of changes) (count + 1) next p es).decisions
        ≡ p.decisions ++ flat_map line_about (told changes seen))
        → (with_events_among segments (changes_of changes) (count + 1) next (cond b with_it o) es).decisions
        ≡ o.decisions ++ flat_map line_about
        (told changes (cond b (answered (due s (count + 1) e) a) (untold (due s (count + 1) e)) ∷ seen))
    by true more =
        more with_it ∙ ap (λ t. t ++ this ++ flat_map line_about (told changes seen)) (answer_keeps e.moment o a)
        ∙ append_assoc o.decisions this (flat_map line_about (told changes seen))
    by false more = more o

-- ---- whole runs

-- what a run tells of
subjects : Segments → Settings → List TimedChange → Timeline → List Subject
subjects segments S changes l =
    told changes (sights segments (changes_of changes) (opened S) 0 l.events) ++ map OfCut (cuts_among segments l.cuts)

run_objects : (segments : Segments) (S : Settings) (changes : List TimedChange) (l : Timeline)
    → objects_among segments S changes l ≡ flat_map object_about (subjects segments S changes l)
unfolding subjects
run_objects segments S changes l =
    let seen = sights segments (changes_of changes) (opened S) 0 l.events in
    let cuts = cuts_among segments l.cuts in
    ap (λ t. t ++ flat_map cut_object cuts) (objects_told changes seen)
    ∙ ap (λ t. flat_map object_about (told changes seen) ++ t) (sym (flat_map-map object_about OfCut cuts))
    ∙ sym (flat_map-append object_about (told changes seen) (map OfCut cuts))

run_lines : (segments : Segments) (S : Settings) (changes : List TimedChange) (ports : ℕ) (l : Timeline)
    → lines_among segments S changes ports l ≡ flat_map line_about (subjects segments S changes l)
unfolding subjects
run_lines segments S changes ports l =
    let seen = sights segments (changes_of changes) (opened S) 0 l.events in
    let cuts = cuts_among segments l.cuts in
    let o = with_events_among segments (changes_of changes) 0 (opened S) (empty_outputs ports) l.events in
    ap (λ (texts : Outputs). texts.decisions) (cuts_more o cuts)
    ∙ ap (λ t. t ++ flat_map cut_line cuts) (lines_told segments changes 0 (opened S) (empty_outputs ports) l.events)
    ∙ ap (λ t. flat_map line_about (told changes seen) ++ t) (sym (flat_map-map line_about OfCut cuts))
    ∙ sym (flat_map-append line_about (told changes seen) (map OfCut cuts))

-- texts that are the same one by one are the same one behind another
joined : (a b : List Subject) → map line_about a ≡ map line_about b → flat_map line_about a ≡ flat_map line_about b
joined [] [] e = refl
joined [] (b ∷ bs) e = absurd cc
joined (a ∷ rest) [] e = absurd cc
joined (a ∷ rest) (b ∷ more) e =
    let first : line_about a ≡ line_about b = ap (λ t. get_or t 0 []) e in
    let behind : map line_about rest ≡ map line_about more = ap (drop 1) e in
    let further = joined rest more behind in
    λ i. first i ++ further i

pub runs : RunsReadBack
runs segments others S T changes further ports more l k e =
    run_lines segments S changes ports l
    ∙ joined (subjects segments S changes l) (subjects others T further k)
    (outputs (subjects segments S changes l) (subjects others T further k)
    (sym (run_objects segments S changes l) ∙ e ∙ run_objects others T further k))
    ∙ sym (run_lines others T further more k)
