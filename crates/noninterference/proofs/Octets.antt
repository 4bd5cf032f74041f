-- The outputs of a run, by what leaves and by what is told.
use Rattle.std.proofs.Common.{◌≡◌, ◌∙◌, refl, sym, ap, subst, ℕ, ◌+◌, ◌-◌, ◌==◌, arith, Bool, true, false, cond, List, [], ◌∷◌, ◌++◌, map, filter, length, Result, Ok, Err}
use Rattle.std.specs.List.{flat_map, zip}
use Rattle.std.proofs.lemmas.List.{map-append}
use Rattle.pcap.specs.Written.{written}
use Rattle.timeline.specs.Events.{IsTapOf}
use Rattle.timeline.specs.Timeline.{Timeline, told}
use Rattle.timeline.specs.declared.event.Event.{Event as Happens}
use Rattle.timeline.specs.declared.event.Happening.{Happening}
use Rattle.timeline.specs.declared.event.Happening.TheVariants as happenings
use Rattle.timeline.specs.declared.fault.TimelineFault.{TimelineFault}
use Rattle.timeline.specs.declared.source.Tap.{Tap}
use Rattle.timeline.specs.declared.source.Tap.TheVariants as taps
use Rattle.overlay.specs.Settings.{Settings as Told}
use Rattle.overlay.specs.declared.settings.change.Change.{Change}
use Rattle.overlay.specs.declared.settings.change.TimedChange.{TimedChange}
use Rattle.endpoint_core.specs.Opened.{settings_told}
use Rattle.endpoint_core.specs.Settings.{Settings}
use Rattle.endpoint_core.specs.Event.{IsRising}
use Rattle.endpoint_core.specs.Step.{State, Answer, Decided, Replied, opened, answer, answers, after}
use Rattle.endpoint_core.proofs.Runs.{answers-decisions}
use Rattle.decision_lines.specs.Lines.{cut_line}
use Rattle.capture_run.specs.Outputs.{Outputs, event_of, line_of as told_line, lines_of, sendings, outputs, outputs_of}
use Rattle.capture_run.specs.Run.{by_timeline}
use Rattle.capture_run.specs.Sendings.{sent_by, is_at_port, record_of, capture_of}
use Rattle.capture_run.specs.declared.fault.RunFault.TheVariants.{PortCount}
use Rattle.noninterference.specs.Coming.{Inputs, IsRunOf, changes_of, coming}
use Rattle.noninterference.specs.Leaving.{Row, rows, rows_of, Departure, decided_in, departure, departing, departures, line_of, lines, leaves_at, records_at, capture_at, Numbered, numbered, line_text}
use Rattle.noninterference.proofs.Lists.{filter-map, map-back, at-range}
use Rattle.noninterference.proofs.Merging.{coming-rises}

-- ---- the outputs of a run

given_by : (s : Told) (changes : List TimedChange) (n : ℕ) (b : Bool) (found : Result Timeline TimelineFault) (l : Timeline) (o : Outputs) → found ≡ Ok l
    → cond b (by_timeline s changes n found) (Err PortCount) ≡ Ok o → o ≡ outputs (settings_told s) (map (λ c. c.change) changes) n l
given_by s changes n true found l o is gives =
    let all : by_timeline s changes n (Ok l) ≡ Ok o = subst (λ f. by_timeline s changes n f ≡ Ok o) is gives in cc
given_by s changes n false found l o is gives = absurd cc

pub outputs_given : (s : Told) (x : Inputs) (l : Timeline) (o : Outputs) → IsRunOf s x l o → o ≡ outputs (settings_told s) (changes_of x) (length x.ports) l
outputs_given s x l o is = given_by s x.changes (length x.ports) (length x.ports == length s.ports) (told (map (λ c. c.at) x.changes) x.ports x.underlay) l o is.read is.outputs

-- each event with its answer, as a run has them
abbrev answered : State → List Change → List Happens → List (Happens × Answer)
answered s changes hs = zip hs (answers s (map (event_of changes) hs))

module _ (S : Settings) (changes : List Change) (n : ℕ) (l : Timeline) (rising : IsRising 0 (map (event_of changes) l.events)) where
  pub texts_answered : outputs S changes n l ≡ outputs_of changes n (answered (opened S) changes l.events) l.cuts
  texts_answered = sym (ap (λ replies. outputs_of changes n (zip l.events replies) l.cuts) (answers-decisions S [] (map (event_of changes) l.events) rising))

-- ---- what leaves

sent_of : (row : Row) → map (λ (d : Departure). d.sending) (departing row) ≡ sent_by row.event.at row.reply
sent_of row = map-back (departure (decided_in row.reply)) (λ (d : Departure). d.sending) (λ s. refl) (sent_by row.event.at row.reply)

sendings-departures : (s : State) (changes : List Change) (hs : List Happens) → map (λ (d : Departure). d.sending) (departures (rows s (map (event_of changes) hs))) ≡ sendings (answered s changes hs)
sendings-departures s changes [] = refl
sendings-departures s changes (h ∷ hs) =
    let e = event_of changes h in
    let row : Row = record { event = e; reply = answer s e } in
    let behind = departures (rows (after s e) (map (event_of changes) hs)) in
    map-append (λ (d : Departure). d.sending) (departing row) behind
    ∙ ap (λ l. l ++ map (λ (d : Departure). d.sending) behind) (sent_of row)
    ∙ ap (λ l. sent_by h.moment (answer s e) ++ l) (sendings-departures (after s e) changes hs)

map-twice : {A B C : Type 0} (f : B → C) (g : A → B) (xs : List A) → map f (map g xs) ≡ map (λ x. f (g x)) xs
map-twice f g [] = refl
map-twice f g (x ∷ xs) = ap (λ l. f (g x) ∷ l) (map-twice f g xs)

capture_is : (output : Tap) (ds : List Departure) → capture_of (leaves_at output) (map (λ (d : Departure). d.sending) ds) ≡ written (records_at output ds)
capture_is output ds =
    ap written
    (ap (map record_of) (filter-map (leaves_at output) (λ (d : Departure). d.sending) ds)
    ∙ map-twice record_of (λ (d : Departure). d.sending) (filter (λ d. leaves_at output d.sending) ds))

capture_in : (output : Tap) (n : ℕ) (changes : List Change) (table : List (Happens × Answer)) (l : Timeline) → IsTapOf n output
    → capture_at output (outputs_of changes n table l.cuts) ≡ capture_of (leaves_at output) (sendings table)
capture_in (taps.Port port) n changes table l of_run =
    at-range (λ p. capture_of (is_at_port p) (sendings table)) [] 1 n (port - 1) (omega (arith, of_run.0, of_run.1))
    ∙ ap (λ p. capture_of (is_at_port p) (sendings table)) (omega (arith, of_run.0))
capture_in taps.Underlay n changes table l of_run = refl

pub texts-captures : (S : Settings) (changes : List Change) (n : ℕ) (l : Timeline) → IsRising 0 (map (event_of changes) l.events) → (output : Tap) → IsTapOf n output
    → capture_at output (outputs S changes n l) ≡ written (records_at output (departures (rows (opened S) (map (event_of changes) l.events))))
texts-captures S changes n l rising output of_run =
    ap (capture_at output) (texts_answered S changes n l rising)
    ∙ capture_in output n changes (answered (opened S) changes l.events) l of_run
    ∙ ap (capture_of (leaves_at output)) (sym (sendings-departures (opened S) changes l.events))
    ∙ capture_is output (departures (rows (opened S) (map (event_of changes) l.events)))

run_rises : (s : Told) (x : Inputs) (l : Timeline) (o : Outputs) → IsRunOf s x l o → IsRising 0 (coming x l)
run_rises s x l o is = coming-rises (changes_of x) (map (λ c. c.at) x.changes) x.ports x.underlay l is.read

pub captures-written : (s : Told) (x : Inputs) (l : Timeline) (o : Outputs) → IsRunOf s x l o → (output : Tap) → IsTapOf (length x.ports) output
    → capture_at output o ≡ written (records_at output (departures (rows_of s x l)))
captures-written s x l o is output of_run =
    ap (capture_at output) (outputs_given s x l o is)
    ∙ texts-captures (settings_told s) (changes_of x) (length x.ports) l (run_rises s x l o is) output of_run

-- ---- what is told

line_is : (changes : List Change) (number moment own : ℕ) (h : Happening) (a : Answer)
    → let event : Happens = record { moment = moment; number = own; happening = h } in
    let row : Row = record { event = event_of changes event; reply = a } in
    let n : Numbered = record { number = number; own = own; line = line_of row } in
    told_line changes number (event, a) ≡ line_text n
line_is changes number moment own (happenings.Change index) (Decided decision) = refl
line_is changes number moment own (happenings.Change index) (Replied fault) = refl
line_is changes number moment own (happenings.Record (taps.Port port) c) (Decided decision) = refl
line_is changes number moment own (happenings.Record (taps.Port port) c) (Replied fault) = refl
line_is changes number moment own (happenings.Record taps.Underlay c) (Decided decision) = refl
line_is changes number moment own (happenings.Record taps.Underlay c) (Replied fault) = refl

lines-numbered : (s : State) (changes : List Change) (count : ℕ) (hs : List Happens)
    → lines_of changes count (answered s changes hs) ≡ flat_map line_text (numbered count hs (rows s (map (event_of changes) hs)))
lines-numbered s changes count [] = refl
lines-numbered s changes count (h ∷ hs) =
    let e = event_of changes h in
    ap (λ l. l ++ lines_of changes (count + 1) (answered (after s e) changes hs)) (line_is changes (count + 1) h.moment h.number h.happening (answer s e))
    ∙ ap (λ l. line_text (record { number = count + 1; own = h.number; line = line_of (record { event = e; reply = answer s e }) }) ++ l) (lines-numbered (after s e) changes (count + 1) hs)

pub texts-decisions : (S : Settings) (changes : List Change) (n : ℕ) (l : Timeline) → IsRising 0 (map (event_of changes) l.events)
    → (outputs S changes n l).decisions ≡ flat_map line_text (numbered 0 l.events (rows (opened S) (map (event_of changes) l.events))) ++ flat_map cut_line l.cuts
texts-decisions S changes n l rising =
    ap (λ (u : Outputs). u.decisions) (texts_answered S changes n l rising)
    ∙ ap (λ t. t ++ flat_map cut_line l.cuts) (lines-numbered (opened S) changes 0 l.events)

pub decisions-numbered : (s : Told) (x : Inputs) (l : Timeline) (o : Outputs) → IsRunOf s x l o
    → o.decisions ≡ flat_map line_text (numbered 0 l.events (rows_of s x l)) ++ flat_map cut_line l.cuts
decisions-numbered s x l o is =
    ap (λ (u : Outputs). u.decisions) (outputs_given s x l o is)
    ∙ texts-decisions (settings_told s) (changes_of x) (length x.ports) l (run_rises s x l o is)

numbers_by : (s : State) (changes : List Change) (count : ℕ) (hs : List Happens)
    → map (λ (n : Numbered). n.line) (numbered count hs (rows s (map (event_of changes) hs))) ≡ lines (rows s (map (event_of changes) hs))
numbers_by s changes count [] = refl
numbers_by s changes count (h ∷ hs) =
    let e = event_of changes h in
    ap (λ l. line_of (record { event = e; reply = answer s e }) ∷ l) (numbers_by (after s e) changes (count + 1) hs)

pub numbers-lines : (s : Told) (x : Inputs) (l : Timeline) → map (λ (n : Numbered). n.line) (numbered 0 l.events (rows_of s x l)) ≡ lines (rows_of s x l)
numbers-lines s x l = numbers_by (opened (settings_told s)) (changes_of x) 0 l.events
