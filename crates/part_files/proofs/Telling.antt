-- The texts of each event of a run are such as a merge reads back.
use Rattle.std.proofs.Common.{◌≡◌, ◌∙◌, refl, sym, ap, subst, ℕ, zero, suc, ◌+◌, ◌^◌, ◌<◌, ◌≤◌, arith, List, [], ◌∷◌, ◌++◌, length, length-append, append_assoc, map, slice_index_or, Option, Some, None, Result, Ok, Err, IfOk}
use Rattle.std.specs.Prelude.{codes}
use Rattle.std.specs.Fmt.{decimal}
use Rattle.std.specs.List.{AllByRecursion, cons_option, filter_map, zip}
use Rattle.wire.specs.declared.ether.reason.Reason.{Reason}
use Rattle.filter_db.specs.declared.place.Place.{Place}
use Rattle.filter_db.specs.declared.place.Place.TheVariants.{Local, Remote}
use Rattle.pcap.specs.Record.{last_moment}
use Rattle.timeline.specs.Words.{source_of, tap_word}
use Rattle.timeline.specs.declared.event.Event.{Event as Happens}
use Rattle.timeline.specs.declared.event.Happening.{Happening}
use Rattle.timeline.specs.declared.event.Happening.TheVariants as happenings
use Rattle.timeline.specs.declared.source.Tap.{Tap}
use Rattle.timeline.specs.declared.source.Tap.TheVariants.{Port, Underlay as Under}
use Rattle.timeline.specs.declared.timeline.Cut.{Cut}
use Rattle.overlay.specs.declared.underlay.settings.Underlay.{Underlay}
use Rattle.overlay.specs.declared.settings.change.Change.{Change}
use Rattle.encapsulate.specs.Sender.{IsUnderlay}
use Rattle.endpoint_core.specs.Decision.{Decision, Sent}
use Rattle.endpoint_core.specs.Step.{Answer, Decided, Replied, State, after, answers}
use Rattle.decision_lines.specs.Lines.{answer_text, cut_line, line, line_front}
use Rattle.capture_run.specs.Outputs.{event_of, input_of, named_by, no_change}
use Rattle.capture_run.specs.Sendings.{Sending, sendings_of, sent_by}
use Rattle.noninterference.specs.Leaving.{told_in}
use Rattle.part_lines.specs.Facts.{facts_of}
use Rattle.part_lines.specs.ReadBack.{IsFront, IsOutcome, IsPlace, IsSource, IsVid, taken_at, taken_by, taken_from}
use Rattle.part_lines.specs.declared.facts.LineFacts.TheVariants as facts
use Rattle.part_lines.proofs.Lines.{cuts, decisions, replies}
use Rattle.part_merge.specs.Coming.{IsCutLine, IsLine, IsPiece}
use Rattle.part_merge.specs.Moved.{AreRecords, taps}
use Rattle.segment_parts.specs.Pieces.{IsAsked, Told, all_pieces, piece_of, record_in, told_from}
use Rattle.part_files.proofs.Answering.{AnswerFits, DecisionFits, IsInput, SentFits, answer-fits, knows-after}
use Rattle.part_files.proofs.Coming.{Comes, IsComing, IsCut}
use Rattle.part_files.proofs.Emitting.{Fits}
use Rattle.part_files.proofs.Knowing.{Knows}
use Rattle.part_files.proofs.Leaving.{IsOutlet}
use Rattle.part_files.proofs.Lining.{plain-cut, plain-line, segment_told}
use Rattle.part_files.proofs.Plain.{IsPlain, none-feeds}
use Rattle.part_files.proofs.Remotes.{HasAddr}

-- an event of a run on so many ports, with no more events than this, and its answer
abbrev pub RowFits : ℕ → ℕ → Happens × Answer → Type 0
RowFits n most row = IsComing n most row.0 × AnswerFits n row.1

-- ---- one line

line-of-body : (body : List ℕ) (most : ℕ) → IsPlain most body → most < 131072 → IsLine (body ++ 10 ∷ [])
line-of-body body most plain low = record {
  body = body;
  is = refl;
  one = none-feeds body plain.lacks;
  short = omega (arith, length-append body (10 ∷ []), plain.short, low);
}

-- ---- what a merge is told

outcome-is : (n : ℕ) (o : Sent) → n ≤ 255 → SentFits n o → IsOutcome o
outcome-is n o few is = (place o.place is.0, sent o.sent is.1)
  where
    place : (p : Place) → IsOutlet n p → IsPlace p
    place (Local port) own = omega (arith, own.1, few)
    place (Remote kind addr) own = own

    sent : (r : Result (List ℕ) Reason) → IfOk r Fits → IfOk r (λ octets. length octets < 2 ^ 64)
    sent (Ok octets) fits = omega (arith, fits)
    sent (Err why) fits = tt

outcomes-are : (n : ℕ) (os : List Sent) → n ≤ 255 → AllByRecursion (SentFits n) os → AllByRecursion IsOutcome os
outcomes-are n [] few all = tt
outcomes-are n (o ∷ os) few all = (outcome-is n o few all.0, outcomes-are n os few all.1)

-- the captures that it reads are those of the records
taken-one : (moment : ℕ) (place : Place) (sent : Result (List ℕ) Reason) (told : List Tap) (others : List Sending) → told ≡ taps (map record_in others)
    → cons_option (taken_at place sent) told
    ≡ taps (map record_in (cons_option (elim sent as (λ _. Option Sending) [ Ok octets ↦ Some (record { moment = moment; place = place; octets = octets }) | Err reason ↦ None ]) others))
taken-one moment (Local port) (Ok octets) told others same = ap (λ (l : List Tap). Port port ∷ l) same
taken-one moment (Remote kind addr) (Ok octets) told others same = ap (λ (l : List Tap). Under ∷ l) same
taken-one moment place (Err reason) told others same = same

taken-all : (moment : ℕ) (os : List Sent) → filter_map taken_by os ≡ taps (map record_in (sendings_of moment os))
taken-all moment [] = refl
taken-all moment (o ∷ os) = taken-one moment o.place o.sent (filter_map taken_by os) (sendings_of moment os) (taken-all moment os)

taken-is : (n moment : ℕ) (d : Decision) → DecisionFits n d → taken_from d.dropped d.outcomes ≡ taps (map record_in (sent_by moment (Decided d)))
taken-is n moment d fits = by d.dropped refl
  where
    by : (o : Option Reason) → d.dropped ≡ o → taken_from o d.outcomes ≡ taps (map record_in (sendings_of moment d.outcomes))
    by None is = taken-all moment d.outcomes
    by (Some reason) is = ap (λ (os : List Sent). taps (map record_in (sendings_of moment os))) (sym (fits.dropped reason is))

-- ---- records

records-one : (n moment : ℕ) (place : Place) (sent : Result (List ℕ) Reason) (others : List Sending) → moment ≤ last_moment → IsOutlet n place → IfOk sent Fits → AreRecords n (map record_in others)
    → AreRecords n (map record_in (cons_option (elim sent as (λ _. Option Sending) [ Ok octets ↦ Some (record { moment = moment; place = place; octets = octets }) | Err reason ↦ None ]) others))
records-one n moment (Local port) (Ok octets) others early own fits all = (((omega (arith, own.0), own.1), record { moment = moment; octets = octets; early = early; short = fits; is = refl }), all)
records-one n moment (Remote kind addr) (Ok octets) others early own fits all = ((tt, record { moment = moment; octets = octets; early = early; short = fits; is = refl }), all)
records-one n moment place (Err reason) others early own fits all = all

records-all : (n moment : ℕ) (os : List Sent) → moment ≤ last_moment → AllByRecursion (SentFits n) os → AreRecords n (map record_in (sendings_of moment os))
records-all n moment [] early all = tt
records-all n moment (o ∷ os) early all = records-one n moment o.place o.sent (sendings_of moment os) early all.0.0 all.0.1 (records-all n moment os early all.1)

records-are : (n moment : ℕ) (a : Answer) → moment ≤ last_moment → AnswerFits n a → AreRecords n (map record_in (sent_by moment a))
records-are n moment (Decided d) early fits = records-all n moment d.outcomes early fits.outcomes
records-are n moment (Replied fault) early fits = tt

-- ---- an event

source-is : (n : ℕ) (h : Happening) → n ≤ 255 → Comes n h → IsSource (source_of h)
source-is n (happenings.Change index) few own = tt
source-is n (happenings.Record (Port port) c) few own = omega (arith, own.0.1, few)
source-is n (happenings.Record Under c) few own = tt

front-is : (n most number : ℕ) (e : Happens) → n ≤ 255 → most < 2 ^ 64 → number ≤ most → IsComing n most e → IsFront number e
front-is n most number e few fits le is = record {
  number = omega (arith, le, fits);
  moment = omega (arith, is.moment);
  own = omega (arith, is.number, fits);
  source = source-is n e.happening few is.happening;
}

vid-is : (segment : Option ℕ) → IsAsked segment → IsVid segment
vid-is None is = tt
vid-is (Some vid) is = omega (arith, is.1)

segment-is : (changes : List Change) (h : Happening) (a : Answer) → IsAsked (told_in (input_of changes h) a) → IsVid (segment_told (named_by changes h) a)
segment-is changes h (Decided d) asked = vid-is d.segment asked
segment-is changes (happenings.Change index) (Replied fault) asked = vid-is _ asked
segment-is changes (happenings.Record tap c) (Replied fault) asked = tt

told-is : (n number : ℕ) (e : Happens) (named : Option ℕ) (a : Answer) → n ≤ 255 → IsFront number e → AnswerFits n a → IsVid (segment_told named a)
    → facts_of (line number e (answer_text named a)) ≡ Ok (facts.Event number (taps (map record_in (sent_by e.moment a))))
told-is n number e named (Decided d) few front fits vid =
    decisions number e d front vid (outcomes-are n d.outcomes few fits.outcomes) ∙ ap (λ (l : List Tap). Ok (facts.Event number l)) (taken-is n e.moment d fits)
told-is n number e named (Replied fault) few front fits vid = replies number e named fault front vid

piece-is : (changes : List Change) (n most number : ℕ) (row : Happens × Answer) → n ≤ 255 → most < 2 ^ 64 → number ≤ most → RowFits n most row → IsAsked (told_in (input_of changes row.0.happening) row.1)
    → IsPiece n (piece_of changes number row)
piece-is changes n most number row few fits le is asked =
    let e = row.0 in
    let named = named_by changes e.happening in
    let text = answer_text named row.1 in
    let front = front-is n most number e few fits le is.0 in
    let coming = is.0 in
    let vid = segment-is changes e.happening row.1 asked in
    record {
      line = subst IsLine (append_assoc (line_front number e) text (10 ∷ [])) (line-of-body (line_front number e ++ text) 83676 (plain-line n number e named row.1 few front is.1 vid) (omega arith));
      told = told-is n number e named row.1 few front is.1 vid;
      records = records-are n e.moment row.1 coming.moment is.1;
    }

-- ---- all events

pieces-are : (changes : List Change) (n most count : ℕ) (rows : List (Happens × Answer)) → n ≤ 255 → most < 2 ^ 64 → count + length rows ≤ most → AllByRecursion (RowFits n most) rows
    → AllByRecursion (λ (t : Told). IsAsked t.segment) (told_from changes count rows) → AllByRecursion (IsPiece n) (all_pieces (told_from changes count rows))
pieces-are changes n most count [] few fits le all asked = tt
pieces-are changes n most count (row ∷ rows) few fits le all asked = (
  piece-is changes n most (count + 1) row few fits (omega (arith, le)) all.0 asked.0,
  pieces-are changes n most (count + 1) rows few fits (omega (arith, le)) all.1 asked.1,
)

index-all : (cs : List Change) (index : ℕ) → AllByRecursion HasAddr cs → HasAddr (slice_index_or cs index no_change)
index-all [] index all = tt
index-all (c ∷ cs) zero all = all.0
index-all (c ∷ cs) (suc index) all = index-all cs index all.1

input-is : (changes : List Change) (n : ℕ) (h : Happening) → AllByRecursion HasAddr changes → Comes n h → IsInput (input_of changes h)
input-is changes n (happenings.Change index) all own = index-all changes index all
input-is changes n (happenings.Record (Port port) c) all own = tt
input-is changes n (happenings.Record Under c) all own = own.1

rows-fit : (changes : List Change) (n most : ℕ) (U : Underlay) (few : n ≤ 255) (own : IsUnderlay U) → AllByRecursion HasAddr changes → (s : State) (es : List Happens) → Knows n U s.bridges → AllByRecursion (IsComing n most) es
    → AllByRecursion (RowFits n most) (zip es (answers s (map (event_of changes) es)))
rows-fit changes n most U few own all s [] knows coming = tt
rows-fit changes n most U few own all s (e ∷ es) knows coming =
    let first = coming.0 in
    let input = input-is changes n e.happening all first.happening in (
      (first, answer-fits n U few own s (event_of changes e) knows input),
      rows-fit changes n most U few own all (after s (event_of changes e)) es (knows-after n U few own s (event_of changes e) knows input) coming.1,
    )

rows-fewer : (es : List Happens) (found : List Answer) → length (zip es found) ≤ length es
rows-fewer [] found = omega arith
rows-fewer (e ∷ es) [] = omega arith
rows-fewer (e ∷ es) (a ∷ found) = omega (arith, rows-fewer es found)

-- the pieces of a run
pub pieces-read : (changes : List Change) (n : ℕ) (U : Underlay) (s : State) (es : List Happens) → n ≤ 255 → IsUnderlay U → length es < 2 ^ 64 → AllByRecursion HasAddr changes → Knows n U s.bridges → AllByRecursion (IsComing n (length es)) es
    → AllByRecursion (λ (t : Told). IsAsked t.segment) (told_from changes 0 (zip es (answers s (map (event_of changes) es))))
    → AllByRecursion (IsPiece n) (all_pieces (told_from changes 0 (zip es (answers s (map (event_of changes) es)))))
pieces-read changes n U s es few own fits all knows coming asked =
    let rows = zip es (answers s (map (event_of changes) es)) in
    pieces-are changes n (length es) 0 rows few fits (omega (arith, rows-fewer es (answers s (map (event_of changes) es)))) (rows-fit changes n (length es) U few own all s es knows coming) asked

-- ---- cuts

cut-is : (n most : ℕ) (cut : Cut) → n ≤ 255 → most < 2 ^ 64 → IsCut n most cut → IsCutLine (cut_line cut)
cut-is n most cut few fits is = record {
  line = line-of-body (codes "cut " ++ tap_word cut.tap ++ codes " " ++ decimal cut.whole) 29 (plain-cut cut (source-is n (happenings.Record cut.tap (record { original = 0; octets = [] })) few (is.tap, λ i. omega arith)) (omega (arith, is.whole, fits))) (omega arith);
  told = cuts cut;
}

pub cuts-read : (n most : ℕ) (cs : List Cut) → n ≤ 255 → most < 2 ^ 64 → AllByRecursion (IsCut n most) cs → AllByRecursion IsCutLine (map cut_line cs)
cuts-read n most [] few fits all = tt
cuts-read n most (c ∷ cs) few fits all = (cut-is n most c few fits all.0, cuts-read n most cs few fits all.1)
