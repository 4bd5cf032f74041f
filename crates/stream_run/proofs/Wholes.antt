-- What the captures of a run tell together.
use Rattle.std.proofs.Common.{◌≡◌, ◌≢◌, ◌∙◌, refl, sym, ap, subst, ℕ, zero, suc, ◌+◌, ◌-◌, ◌<◌, ◌≤◌, if◌then◌else◌, List, [], ◌∷◌, ◌++◌, length, map, slice_index_or, arith, Vec, Global, Option, Some, None, Result, Ok, Err}
use Rattle.std.specs.List.{cons_option, flat_map}
use Rattle.std.specs.Option.{option_to_list}
use Rattle.std.proofs.lemmas.List.{length-map}
use Rattle.pcap.specs.Capture.{opened}
use Rattle.pcap.specs.Next.{End, Whole, Cut, Faulty}
use Rattle.pcap.specs.Reading.{Reading}
use Rattle.pcap.specs.Record.{Record}
use Rattle.pcap.specs.declared.text.header.CaptureFault.{CaptureFault}
use Rattle.pcap.specs.declared.text.record.RecordFault.{RecordFault}
use Rattle.pcap.specs.Source.{Standing, Stream, after_end, ends_cut}
use Rattle.overlay.specs.declared.settings.change.TimedChange.{TimedChange}
use Rattle.timeline.specs.Events.{change_events, events_of}
use Rattle.timeline.specs.Faults.{ended_by, faults_of, opening_faults, record_faults, refused_by}
use Rattle.timeline.specs.Inputs.{inputs, inputs_from, opened_by, opened_captures}
use Rattle.timeline.specs.Order.{merged}
use Rattle.timeline.specs.Timeline.{cut_by, cuts_of}
use Rattle.timeline.specs.declared.capture.Opened.{Opened}
use Rattle.timeline.specs.declared.fault.TimelineFault.{TimelineFault}
use Rattle.timeline.specs.declared.fault.TimelineFault.TheVariants as faults
use Rattle.timeline.specs.declared.source.Tap.{Tap}
use Rattle.timeline.specs.declared.source.Tap.TheVariants.{Port, Underlay}
use Rattle.timeline.specs.declared.timeline.Cut.{Cut as CutRest}
use Rattle.stream_run.specs.Begun.{no_turn}
use Rattle.stream_run.specs.Coming.{capture_events, coming, events_by, source_events}
use Rattle.stream_run.specs.Cuts.{cut_behind, cuts_at, cuts_from}
use Rattle.stream_run.specs.Over.{AreFaultless, CanBeOpened, texts_octets, whole_records}
use Rattle.stream_run.specs.Read.{IsRead, StandsBehind}
use Rattle.stream_run.specs.Steps.{AreRead, IsAt, octets_at}
use Rattle.stream_run.specs.declared.turn.Turn.{Turn}
use Rattle.stream_run.proofs.Merging.{all_left, side_by_side}
use Rattle.stream_run.proofs.Telling.{captures_many}

-- ---- their events

opened_events : (tap : Tap) (found : Result Reading CaptureFault) (others : List Opened) → flat_map events_of (cons_option (opened_by tap found) others) ≡ events_by tap found ++ flat_map events_of others
opened_events tap (Ok reading) others = refl
opened_events tap (Err fault) others = refl

captures_side : (from : ℕ) (texts : List (Vec ℕ Global)) (text : List ℕ) → flat_map events_of (opened_captures (inputs_from from texts text)) ≡ side_by_side (capture_events from (texts_octets texts) text)
captures_side from [] text = opened_events Underlay (opened text) []
captures_side from (v ∷ vs) text =
    opened_events (Port from) (opened v.items) (opened_captures (inputs_from (from + 1) vs text))
    ∙ ap (λ l. events_by (Port from) (opened v.items) ++ l) (captures_side (from + 1) vs text)

-- before the first one came, all are to come
pub all_coming : (changes : List TimedChange) (texts : List (Vec ℕ Global)) (text : List ℕ) (turns : List Turn) → length turns ≡ length texts + 2 → ((t : Turn) (k : ℕ) → k < length turns → (slice_index_or turns k t).done ≡ 0)
    → (whole_records changes texts text).events ≡ coming changes (texts_octets texts) text turns
all_coming changes texts text turns size none =
    let many : length (source_events changes (texts_octets texts) text) ≡ length turns = omega (arith, captures_many 1 (texts_octets texts) text, length-map texts (λ (v : Vec ℕ Global). v.items), size) in
    ap (λ l. merged (change_events 0 (map (λ (c : TimedChange). c.at) changes) ++ l)) (captures_side 1 texts text)
    ∙ sym (ap merged (all_left turns (source_events changes (texts_octets texts) text) many none))

-- ---- their faults

-- a capture is read to its end
pub record IsWholeText (octets : List ℕ) : Type 0 where
  pub rs : List Record
  pub end : End
  pub reading : opened octets ≡ Ok (record { records = rs; end = end })
  pub no_fault : (fault : RecordFault) → end ≢ Faulty fault

-- those of the ports and of the underlay are
pub record AreWholeTexts (texts : List (Vec ℕ Global)) (text : List ℕ) : Type 0 where
  pub ports : (j : ℕ) → j < length texts → IsWholeText (slice_index_or (texts_octets texts) j [])
  pub underlay : IsWholeText text

whole_behind : (v : Vec ℕ Global) (vs : List (Vec ℕ Global)) (text : List ℕ) → AreWholeTexts (v ∷ vs) text → AreWholeTexts vs text
whole_behind v vs text whole = record { ports = λ j lt. whole.ports (suc j) (omega (arith, lt)); underlay = whole.underlay }

-- a text begins as a capture does
abbrev pub IsCapture : List ℕ → Type 0
IsCapture octets = (reading : Reading) × (opened octets ≡ Ok reading)

no_refusal : (tap : Tap) (octets : List ℕ) (others : List TimelineFault) → IsCapture octets → cons_option (refused_by tap (opened octets)) others ≡ others
no_refusal tap octets others capture = ap (λ found. cons_option (refused_by tap found) others) capture.1

none_refused : (from : ℕ) (texts : List (Vec ℕ Global)) (text : List ℕ) → ((j : ℕ) → j < length texts → IsCapture (slice_index_or (texts_octets texts) j [])) → IsCapture text → opening_faults (inputs_from from texts text) ≡ []
none_refused from [] text ports underlay = no_refusal Underlay text [] underlay
none_refused from (v ∷ vs) text ports underlay =
    no_refusal (Port from) v.items (opening_faults (inputs_from (from + 1) vs text)) (ports 0 (omega arith))
    ∙ none_refused (from + 1) vs text (λ j lt. ports (suc j) (omega (arith, lt))) underlay

pub all_captures : (texts : List (Vec ℕ Global)) (text : List ℕ) → ((place : Tap) (index : ℕ) → IsAt (length texts) index place → IsCapture (octets_at (texts_octets texts) text place)) → CanBeOpened texts text
all_captures texts text each = none_refused 1 texts text ports (each Underlay (length texts + 1) refl)
  where
    ports : (j : ℕ) → j < length texts → IsCapture (slice_index_or (texts_octets texts) j [])
    ports j lt =
        let same : j + 1 - 1 ≡ j = omega arith in
        subst (λ i. IsCapture (slice_index_or (texts_octets texts) i [])) same (each (Port (j + 1)) (j + 1) (refl, omega arith, omega (arith, lt)))

pub whole_captures : (texts : List (Vec ℕ Global)) (text : List ℕ) → AreWholeTexts texts text → CanBeOpened texts text
whole_captures texts text whole = none_refused 1 texts text (λ j lt. (_, (whole.ports j lt).reading)) (_, whole.underlay.reading)

ends_well : (tap : Tap) (count : ℕ) (end : End) (others : List TimelineFault) → ((fault : RecordFault) → end ≢ Faulty fault) → cons_option (ended_by tap count end) others ≡ others
ends_well tap count Whole others h = refl
ends_well tap count Cut others h = refl
ends_well tap count (Faulty fault) others h = absurd (h fault refl)

no_end_fault : (tap : Tap) (octets : List ℕ) (others : List Opened) → IsWholeText octets → record_faults (cons_option (opened_by tap (opened octets)) others) ≡ record_faults others
no_end_fault tap octets others whole =
    ap (λ found. record_faults (cons_option (opened_by tap found) others)) whole.reading
    ∙ ends_well tap (length whole.rs) whole.end (record_faults others) whole.no_fault

no_record_fault : (from : ℕ) (texts : List (Vec ℕ Global)) (text : List ℕ) → AreWholeTexts texts text → record_faults (opened_captures (inputs_from from texts text)) ≡ []
no_record_fault from [] text whole = no_end_fault Underlay text [] whole.underlay
no_record_fault from (v ∷ vs) text whole =
    no_end_fault (Port from) v.items (opened_captures (inputs_from (from + 1) vs text)) (whole.ports 0 (omega arith)) ∙ no_record_fault (from + 1) vs text (whole_behind v vs text whole)

pub no_faults : (texts : List (Vec ℕ Global)) (text : List ℕ) → AreWholeTexts texts text → AreFaultless texts text
no_faults texts text whole = ap (λ l. l ++ record_faults (opened_captures (inputs texts text))) (whole_captures texts text whole) ∙ no_record_fault 1 texts text whole

-- ---- the first that can't be opened

-- those in front of it can
pub record IsFirstRefused (texts : List (Vec ℕ Global)) (text : List ℕ) (index : ℕ) (place : Tap) (fault : CaptureFault) : Type 0 where
  pub at : IsAt (length texts) index place
  pub refused : opened (octets_at (texts_octets texts) text place) ≡ Err fault
  pub before : (other : Tap) (k : ℕ) → k < index → IsAt (length texts) k other → (reading : Reading) × (opened (octets_at (texts_octets texts) text other) ≡ Ok reading)

-- so many of the ports' captures are opened, and the next one isn't
refused_port : (from j : ℕ) (texts : List (Vec ℕ Global)) (text : List ℕ) (port : ℕ) (fault : CaptureFault) → j < length texts → port ≡ from + j → opened (slice_index_or (texts_octets texts) j []) ≡ Err fault
    → ((k : ℕ) → k < j → (reading : Reading) × (opened (slice_index_or (texts_octets texts) k []) ≡ Ok reading))
    → (others : List TimelineFault) × (opening_faults (inputs_from from texts text) ≡ faults.Capture (Port port) fault ∷ others)
refused_port from j [] text port fault there is refused before = absurd (omega (arith, there))
refused_port from zero (v ∷ vs) text port fault there is refused before =
    let others = opening_faults (inputs_from (from + 1) vs text) in
    let same : from ≡ port = omega (arith, is) in
    (others, ap (λ found. cons_option (refused_by (Port from) found) others) refused ∙ ap (λ p. faults.Capture (Port p) fault ∷ others) same)
refused_port from (suc j) (v ∷ vs) text port fault there is refused before =
    let first = before 0 (omega arith) in
    let rest = refused_port (from + 1) j vs text port fault (omega (arith, there)) (omega (arith, is)) refused (λ k lt. before (suc k) (omega (arith, lt))) in
    (rest.0, ap (λ found. cons_option (refused_by (Port from) found) (opening_faults (inputs_from (from + 1) vs text))) first.1 ∙ rest.1)

refused_underlay : (from : ℕ) (texts : List (Vec ℕ Global)) (text : List ℕ) (fault : CaptureFault) → opened text ≡ Err fault
    → ((k : ℕ) → k < length texts → (reading : Reading) × (opened (slice_index_or (texts_octets texts) k []) ≡ Ok reading))
    → opening_faults (inputs_from from texts text) ≡ faults.Capture Underlay fault ∷ []
refused_underlay from [] text fault refused before = ap (λ found. cons_option (refused_by Underlay found) []) refused
refused_underlay from (v ∷ vs) text fault refused before =
    let first = before 0 (omega arith) in
    ap (λ found. cons_option (refused_by (Port from) found) (opening_faults (inputs_from (from + 1) vs text))) first.1
    ∙ refused_underlay (from + 1) vs text fault refused (λ k lt. before (suc k) (omega (arith, lt)))

pub first_refused : (texts : List (Vec ℕ Global)) (text : List ℕ) (index : ℕ) (place : Tap) (fault : CaptureFault) → IsFirstRefused texts text index place fault
    → (others : List TimelineFault) × (faults_of (inputs texts text) ≡ faults.Capture place fault ∷ others)
first_refused texts text index (Port p) fault first =
    let at = first.at in
    let before = λ (k : ℕ) (lt : k < p - 1). ports_before k (omega (arith, lt, at.0)) (omega (arith, lt, at.2)) in
    let found = refused_port 1 (p - 1) texts text p fault (omega (arith, at.1, at.2)) (omega (arith, at.1)) first.refused before in
    (found.0 ++ record_faults (opened_captures (inputs texts text)), ap (λ l. l ++ record_faults (opened_captures (inputs texts text))) found.1)
  where
    ports_before : (k : ℕ) → k + 1 < index → k + 1 ≤ length texts → (reading : Reading) × (opened (slice_index_or (texts_octets texts) k []) ≡ Ok reading)
    ports_before k lt le =
        let same : k + 1 - 1 ≡ k = omega arith in
        subst (λ i. (reading : Reading) × (opened (slice_index_or (texts_octets texts) i []) ≡ Ok reading)) same (first.before (Port (k + 1)) (k + 1) lt (refl, omega arith, le))
first_refused texts text index Underlay fault first =
    let at = first.at in
    let found = refused_underlay 1 texts text fault first.refused (λ k lt. ports_before k (omega (arith, lt, at)) (omega (arith, lt))) in
    (record_faults (opened_captures (inputs texts text)), ap (λ l. l ++ record_faults (opened_captures (inputs texts text))) found)
  where
    ports_before : (k : ℕ) → k + 1 < index → k + 1 ≤ length texts → (reading : Reading) × (opened (slice_index_or (texts_octets texts) k []) ≡ Ok reading)
    ports_before k lt le =
        let same : k + 1 - 1 ≡ k = omega arith in
        subst (λ i. (reading : Reading) × (opened (slice_index_or (texts_octets texts) i []) ≡ Ok reading)) same (first.before (Port (k + 1)) (k + 1) lt (refl, omega arith, le))

-- ---- their ends

-- a source stands at the end of its capture, behind so many records
pub record StandsAtEnd (octets : List ℕ) (s : Stream) (done : ℕ) : Type 0 where
  pub whole : IsWholeText octets
  pub stands : s.standing ≡ after_end whole.end
  pub count : done ≡ length whole.rs

stands_done : (octets : List ℕ) (done : List Record) (count : ℕ) (next : Option ℕ) (s : Stream) → count ≡ length done → next ≡ None → StandsBehind octets done next s → StandsAtEnd octets s count
stands_done octets done count (Some moment) s is none stands = absurd cc
stands_done octets done count None s is none stands = record { whole = record { rs = done; end = stands.end; reading = stands.reading; no_fault = stands.no_fault }; stands = stands.stands; count = is }

cut_is : (tap : Tap) (end : End) (s : Stream) (done count : ℕ) → s.standing ≡ after_end end → done ≡ count → ((fault : RecordFault) → end ≢ Faulty fault) → cut_by tap count end ≡ cut_behind tap s done
cut_is tap end s done count stands is no_fault = by end no_fault ∙ sym (ap (λ (st : Standing). if ends_cut st then Some (record { tap = tap; whole = done }) else None) stands)
  where
    by : (end : End) → ((fault : RecordFault) → end ≢ Faulty fault) → cut_by tap count end ≡ (if ends_cut (after_end end) then Some (record { tap = tap; whole = done }) else None)
    by Whole h = refl
    by Cut h = ap (λ n. Some (record { tap = tap; whole = n })) (sym is)
    by (Faulty fault) h = absurd (h fault refl)

one_cut : (tap : Tap) (octets : List ℕ) (s : Stream) (done : ℕ) (others : List Opened) → StandsAtEnd octets s done
    → cuts_of (cons_option (opened_by tap (opened octets)) others) ≡ cons_option (cut_behind tap s done) (cuts_of others)
one_cut tap octets s done others ends =
    ap (λ found. cuts_of (cons_option (opened_by tap found) others)) ends.whole.reading
    ∙ ap (λ c. cons_option c (cuts_of others)) (cut_is tap ends.whole.end s done (length ends.whole.rs) ends.stands ends.count ends.whole.no_fault)

last_cut : (c : Option CutRest) → cons_option c [] ≡ option_to_list c
last_cut None = refl
last_cut (Some c) = refl

cuts_same : (from : ℕ) (texts : List (Vec ℕ Global)) (ports : List Stream) (text : List ℕ) (underlay : Stream) (turns : List Turn) → length texts ≡ length ports
    → ((j : ℕ) → j < length texts → StandsAtEnd (slice_index_or (texts_octets texts) j []) (slice_index_or ports j underlay) (slice_index_or turns (from + j) no_turn).done)
    → StandsAtEnd text underlay (slice_index_or turns (from + length texts) no_turn).done
    → cuts_of (opened_captures (inputs_from from texts text)) ≡ cuts_from from ports underlay turns
cuts_same from [] [] text underlay turns many each last =
    let same : from + 0 ≡ from = omega arith in
    one_cut Underlay text underlay (slice_index_or turns from no_turn).done [] (subst (λ n. StandsAtEnd text underlay (slice_index_or turns n no_turn).done) same last)
    ∙ last_cut (cut_behind Underlay underlay (slice_index_or turns from no_turn).done)
cuts_same from [] (s ∷ ss) text underlay turns many each last = absurd (omega (arith, many))
cuts_same from (v ∷ vs) [] text underlay turns many each last = absurd (omega (arith, many))
cuts_same from (v ∷ vs) (s ∷ ss) text underlay turns many each last =
    let same : from + 0 ≡ from = omega arith in
    one_cut (Port from) v.items s (slice_index_or turns from no_turn).done (opened_captures (inputs_from (from + 1) vs text))
    (subst (λ n. StandsAtEnd v.items s (slice_index_or turns n no_turn).done) same (each 0 (omega arith)))
    ∙ ap (cons_option (cut_behind (Port from) s (slice_index_or turns from no_turn).done)) (cuts_same (from + 1) vs ss text underlay turns (omega (arith, many)) behind last_behind)
  where
    behind : (j : ℕ) → j < length vs → StandsAtEnd (slice_index_or (texts_octets vs) j []) (slice_index_or ss j underlay) (slice_index_or turns (from + 1 + j) no_turn).done
    behind j lt =
        let same : from + suc j ≡ from + 1 + j = omega arith in
        subst (λ n. StandsAtEnd (slice_index_or (texts_octets vs) j []) (slice_index_or ss j underlay) (slice_index_or turns n no_turn).done) same (each (suc j) (omega (arith, lt)))

    last_behind : StandsAtEnd text underlay (slice_index_or turns (from + 1 + length vs) no_turn).done
    last_behind =
        let same : from + length (v ∷ vs) ≡ from + 1 + length vs = omega arith in
        subst (λ n. StandsAtEnd text underlay (slice_index_or turns n no_turn).done) same last

-- all sources of a run do
pub record AllStandAtEnd (texts : List (Vec ℕ Global)) (text : List ℕ) (turns : List Turn) (streams : List Stream) (stream : Stream) : Type 0 where
  pub many : length texts ≡ length streams
  pub ports : (j : ℕ) → j < length texts → StandsAtEnd (slice_index_or (texts_octets texts) j []) (slice_index_or streams j stream) (slice_index_or turns (1 + j) no_turn).done
  pub underlay : StandsAtEnd text stream (slice_index_or turns (1 + length texts) no_turn).done

pub all_at_end : (texts : List (Vec ℕ Global)) (text : List ℕ) (turns : List Turn) (streams : List Stream) (underlay : Stream) → AreRead (texts_octets texts) text turns streams underlay → length turns ≡ length streams + 2
    → ((t : Turn) (k : ℕ) → k < length turns → (slice_index_or turns k t).next ≡ None) → AllStandAtEnd texts text turns streams underlay
all_at_end texts text turns streams underlay read size none = record { many = many; ports = ports_end; underlay = underlay_end }
  where
    many : length texts ≡ length streams
    many = sym (length-map texts (λ (v : Vec ℕ Global). v.items)) ∙ read.many

    of_read : (octets : List ℕ) (t : Turn) (s : Stream) → IsRead octets t s → t.next ≡ None → StandsAtEnd octets s t.done
    of_read octets t s read none = stands_done octets read.done t.done t.next s read.count none read.stands

    ports_end : (j : ℕ) → j < length texts → StandsAtEnd (slice_index_or (texts_octets texts) j []) (slice_index_or streams j underlay) (slice_index_or turns (1 + j) no_turn).done
    ports_end j lt =
        let same : 1 + j - 1 ≡ j = omega arith in
        let own = of_read (slice_index_or (texts_octets texts) (1 + j - 1) []) (slice_index_or turns (1 + j) no_turn) (slice_index_or streams (1 + j - 1) underlay)
        (read.each (Port (1 + j)) (1 + j) no_turn (refl, omega arith, omega (arith, lt, many))) (none no_turn (1 + j) (omega (arith, lt, many, size))) in
        subst (λ i. StandsAtEnd (slice_index_or (texts_octets texts) i []) (slice_index_or streams i underlay) (slice_index_or turns (1 + j) no_turn).done) same own

    underlay_end : StandsAtEnd text underlay (slice_index_or turns (1 + length texts) no_turn).done
    underlay_end =
        of_read text (slice_index_or turns (1 + length texts) no_turn) underlay (read.each Underlay (1 + length texts) no_turn (omega (arith, many))) (none no_turn (1 + length texts) (omega (arith, many, size)))

pub whole_at_end : (texts : List (Vec ℕ Global)) (text : List ℕ) (turns : List Turn) (ports : List Stream) (underlay : Stream) → AllStandAtEnd texts text turns ports underlay → AreWholeTexts texts text
whole_at_end texts text turns ports underlay ends = record { ports = λ j lt. (ends.ports j lt).whole; underlay = ends.underlay.whole }

pub cuts_at_end : (texts : List (Vec ℕ Global)) (text : List ℕ) (turns : List Turn) (ports : List Stream) (underlay : Stream) → AllStandAtEnd texts text turns ports underlay
    → cuts_of (opened_captures (inputs texts text)) ≡ cuts_at ports underlay turns
cuts_at_end texts text turns ports underlay ends = cuts_same 1 texts ports text underlay turns ends.many ends.ports ends.underlay
