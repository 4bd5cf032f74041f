-- How many events of each capture came, and so none behind a fault, and how far its source was read.
use Rattle.std.proofs.Common.{◌≡◌, ◌≢◌, ◌∙◌, refl, sym, ap, subst, ℕ, ◌+◌, ◌<◌, ◌≤◌, ◌==◌, inl, inr, Bool, true, false, cond, List, [], ◌∷◌, ◌++◌, length, length-append, slice_index_or, slice_set, arith, Option, Some, None, Result, Ok, Err}
use Rattle.std.specs.List.{AllByRecursion}
use Rattle.std.proofs.lemmas.Bool.{eq-eqb, eqb-true, eqb-false}
use Rattle.std.proofs.lemmas.List.{get_or-set_same, get_or-set_other}
use Rattle.timeline.proofs.KnownEvents.{all-append}
use Rattle.pcap.specs.Next.{End, Faulty}
use Rattle.pcap.specs.Reading.{Reading, records}
use Rattle.pcap.specs.Record.{Record}
use Rattle.pcap.specs.declared.text.header.CaptureFault.{CaptureFault}
use Rattle.pcap.specs.declared.text.record.RecordFault.{RecordFault}
use Rattle.pcap.specs.Source.{Stream}
use Rattle.timeline.specs.Words.{source_of}
use Rattle.timeline.specs.declared.event.Event.{Event}
use Rattle.timeline.specs.declared.source.Source.{Source}
use Rattle.timeline.specs.declared.source.Source.TheVariants as sources
use Rattle.timeline.specs.declared.source.Tap.{Tap}
use Rattle.timeline.specs.declared.source.Tap.TheVariants.{Port, Underlay}
use Rattle.stream_run.specs.Coming.{IsRecordBefore, is_from, is_place, records_among}
use Rattle.stream_run.specs.Read.{IsFaulty, IsRead, StandsBehind}
use Rattle.stream_run.specs.Steps.{AreRead, AreReadBehind, CountsOne, IsAt, IsChangedAt, IsFaultyAt, IsNextEvent, StopInFront, octets_at, source_at}
use Rattle.stream_run.specs.declared.fault.StreamFault.{StreamFault}
use Rattle.stream_run.specs.declared.turn.Turn.{Turn}
use Rattle.stream_run.proofs.Reading.{one_place}
use Rattle.stream_run.proofs.Readying.{never_change, unchanged}

-- ---- how many came

-- a record of this capture is none behind so many
abbrev pub IsWithin : Tap → ℕ → Event → Type 0
IsWithin place done e = source_of e.happening ≡ sources.Tap place → e.number ≤ done

-- of each capture no more records came than its turn counts
abbrev pub AreCounted : ℕ → List Turn → List Event → Type 0
AreCounted ports turns es = (place : Tap) (index : ℕ) (t : Turn) → IsAt ports index place → AllByRecursion (IsWithin place (slice_index_or turns index t).done) es

more_within : (place : Tap) (less more : ℕ) (es : List Event) → less ≤ more → AllByRecursion (IsWithin place less) es → AllByRecursion (IsWithin place more) es
more_within place less more [] le h = tt
more_within place less more (e ∷ es) le h = (λ of_it. let few = h.0 of_it in omega (arith, few, le), more_within place less more es le h.1)

one_index : (n i j : ℕ) (place : Tap) → IsAt n i place → IsAt n j place → i ≡ j
one_index n i j (Port p) at also = omega (arith, at.0, also.0)
one_index n i j Underlay at also = omega (arith, at, also)

-- the number of the next event
next_number : (ports : List Stream) (underlay : Stream) (index done moment : ℕ) (e : Event) → IsNextEvent ports underlay index done moment e → e.number ≡ done + 1
next_number ports underlay index done moment e (inl h) = ap (λ (e : Event). e.number) h.1
next_number ports underlay index done moment e (inr h) = ap (λ (e : Event). e.number) h.4

-- it is of the capture with this index
next_source : (ports : List Stream) (underlay : Stream) (index i done moment : ℕ) (place : Tap) (e : Event) → IsNextEvent ports underlay index done moment e → IsAt (length ports) i place → source_of e.happening ≡ sources.Tap place → i ≡ index
next_source ports underlay index i done moment place e (inl h) at is =
    let change = ap (λ (e : Event). source_of e.happening) h.1 in
    absurd cc
next_source ports underlay index i done moment place e (inr (other, r, also, lends, event)) at is =
    let from : source_of e.happening ≡ sources.Tap other = ap (λ (e : Event). source_of e.happening) event in
    let same : other ≡ place = cc in
    one_index (length ports) i index place at (subst (λ p. IsAt (length ports) index p) same also)

pub counts_on : (ports : List Stream) (underlay : Stream) (turns new : List Turn) (index moment : ℕ) (es : List Event) (e : Event) → AreCounted (length ports) turns es
    → ((t : Turn) → IsNextEvent ports underlay index (slice_index_or turns index t).done moment e) → CountsOne index turns new → AreCounted (length ports) new (es ++ e ∷ [])
counts_on ports underlay turns new index moment es e counted next one place i t at = by (i == index) refl
  where
    Goal : List Turn → ℕ → Type 0
    Goal ts i = AllByRecursion (IsWithin place (slice_index_or ts i t).done) (es ++ e ∷ [])

    by : (b : Bool) → (i == index) ≡ b → Goal new i
    by true is =
        let same : i ≡ index = eqb-true i index is in
        let here : slice_index_or (slice_set turns index one.turn) index t ≡ one.turn = get_or-set_same turns index one.turn t one.there in
        let old = subst (λ i. AllByRecursion (IsWithin place (slice_index_or turns i t).done) es) same (counted place i t at) in
        let done = (slice_index_or turns index t).done in
        let count = one.count t in
        let number = next_number ports underlay index done moment e (next t) in
        rw (same, one.changed, here)
        (all-append (IsWithin place one.turn.done) es (e ∷ []) (more_within place done one.turn.done es (omega (arith, count)) old) (λ of_it. omega (arith, count, number), tt))
    by false is =
        let apart : i ≢ index = eqb-false i index is in
        let here : slice_index_or (slice_set turns index one.turn) i t ≡ slice_index_or turns i t = get_or-set_other turns index i one.turn t apart in
        rw (one.changed, here)
        (all-append (IsWithin place (slice_index_or turns i t).done) es (e ∷ []) (counted place i t at)
        (λ of_it. absurd (apart (next_source ports underlay index i (slice_index_or turns index t).done moment place e (next t) at of_it)), tt))

-- ---- before a fault

-- how many records were found
abbrev found_many : Result Reading CaptureFault → ℕ
found_many (Ok reading) = length reading.records
found_many (Err fault) = 0

abbrev found_end : Result Reading CaptureFault → Option End
found_end (Ok reading) = Some reading.end
found_end (Err fault) = None

-- where a source lends its next record, or has no fault, none came that is right in front of one
before_fault : (octets : List ℕ) (done : List Record) (next : Option ℕ) (s : Stream) (n : ℕ) (fault : RecordFault) → StandsBehind octets done next s → IsFaulty octets n fault → length done + 2 ≤ n
before_fault octets done (Some moment) s n fault (r, is, lends) faulty =
    let reading = lends.reading in
    let others = (records reading.style reading.rest).records in
    let many : length ((done ++ r ∷ []) ++ others) ≡ length faulty.whole = ap found_many (sym reading.records ∙ faulty.reading) in
    omega (arith, many, faulty.number, length-append (done ++ r ∷ []) others, length-append done (r ∷ []))
before_fault octets done None s n fault whole faulty =
    let end : Some whole.end ≡ Some (Faulty fault) = ap found_end (sym whole.reading ∙ faulty.reading) in
    let same : whole.end ≡ Faulty fault = cc in
    absurd (whole.no_fault fault same)

-- ---- some events

-- of events that all have something, so has one among them
one_of : (P : Event → Type 0) (others behind : List Event) (e : Event) → AllByRecursion P (others ++ e ∷ behind) → P e
one_of P [] behind e h = h.0
one_of P (x ∷ others) behind e h = one_of P others behind e h.1

-- what not all but the last of them have, the last alone may lack
last_one : (P : Event → Type 0) (es others behind : List Event) (last e : Event) → AllByRecursion P es → es ++ last ∷ [] ≡ others ++ e ∷ behind → (P e → ⊥) → behind ≡ []
last_one P [] [] behind last e h is never = cc
last_one P [] (x ∷ others) behind last e h is never = absurd (omega (arith, ap length is, length-append others (e ∷ behind)))
last_one P (y ∷ es) [] behind last e h is never = let same : y ≡ e = cc in absurd (never (subst P same h.0))
last_one P (y ∷ es) (x ∷ others) behind last e h is never = let left : es ++ last ∷ [] ≡ others ++ e ∷ behind = cc in last_one P es others behind last e h.1 left never

module _ (texts : List (List ℕ)) (text : List ℕ) where
  -- before any event
  pub none_in_front : StopInFront texts text []
  none_in_front place n fault faulty = record { none = λ first. refl; last = λ others behind e is before. absurd (omega (arith, ap length is, length-append others (e ∷ behind))) }

  module _ (turns : List Turn) (ports : List Stream) (underlay : Stream) (es : List Event) (read : AreRead texts text turns ports underlay) (counted : AreCounted (length ports) turns es) where
    -- none that came is right in front of a fault
    few_came : (place : Tap) (n : ℕ) (fault : RecordFault) (t : Turn) (faulty : IsFaultyAt texts text place n fault) → (slice_index_or turns faulty.index t).done + 2 ≤ n
    few_came place n fault t faulty =
        let source = read.each place faulty.index t (subst (λ n. IsAt n faulty.index place) read.many faulty.at) in
        let few = before_fault (octets_at texts text place) source.done (slice_index_or turns faulty.index t).next (source_at ports underlay place) n fault source.stands faulty.faulty in
        omega (arith, few, source.count)

    -- so it isn't among them
    not_it : (place : Tap) (n : ℕ) (fault : RecordFault) (t : Turn) (faulty : IsFaultyAt texts text place n fault) (e : Event) → IsRecordBefore place n e → IsWithin place (slice_index_or turns faulty.index t).done e → ⊥
    not_it place n fault t faulty e before within =
        let few = few_came place n fault t faulty in
        let number = within before.source in
        omega (arith, few, number, before.number)

    all_came : (place : Tap) (n : ℕ) (fault : RecordFault) (t : Turn) (faulty : IsFaultyAt texts text place n fault) → AllByRecursion (IsWithin place (slice_index_or turns faulty.index t).done) es
    all_came place n fault t faulty = counted place faulty.index t (subst (λ n. IsAt n faulty.index place) read.many faulty.at)

    -- those that came stop in front of each fault
    pub all_in_front : StopInFront texts text es
    all_in_front place n fault faulty =
        let t : Turn = record { done = 0; next = None } in
        record {
          none = λ first. absurd (let few = few_came place n fault t faulty in omega (arith, few, first));
          last = λ others behind e is before. absurd (not_it place n fault t faulty e before
              (one_of (IsWithin place (slice_index_or turns faulty.index t).done) others behind e (subst (AllByRecursion (IsWithin place (slice_index_or turns faulty.index t).done)) is (all_came place n fault t faulty))));
        }

    -- and so do they with one event more
    pub one_in_front : (last : Event) → StopInFront texts text (es ++ last ∷ [])
    one_in_front last place n fault faulty =
        let t : Turn = record { done = 0; next = None } in
        record {
          none = λ first. absurd (let few = few_came place n fault t faulty in omega (arith, few, first));
          last = λ others behind e is before. last_one (IsWithin place (slice_index_or turns faulty.index t).done) es others behind last e (all_came place n fault t faulty) is (not_it place n fault t faulty e before);
        }

-- ---- how many there are

place_same : (p : Tap) → is_place p p ≡ true
place_same (Port p) = eq-eqb p p refl
place_same Underlay = refl

place_true : (p q : Tap) → is_place p q ≡ true → p ≡ q
place_true (Port p) (Port q) is = ap Port (eqb-true p q is)
place_true (Port p) Underlay is = absurd cc
place_true Underlay (Port q) is = absurd cc
place_true Underlay Underlay is = refl

from_true : (place : Tap) (s : Source) → is_from place s ≡ true → s ≡ sources.Tap place
from_true place sources.Changes is = absurd cc
from_true place (sources.Tap other) is = ap sources.Tap (sym (place_true place other is))

-- with one event more
abbrev one_if : Tap → Event → ℕ
one_if place e = cond (is_from place (source_of e.happening)) 1 0

among_more : (place : Tap) (es : List Event) (e : Event) → records_among place (es ++ e ∷ []) ≡ records_among place es + one_if place e
among_more place [] e = omega arith
among_more place (f ∷ es) e = let more = among_more place es e in omega (arith, more)

one_here : (place : Tap) (es : List Event) (e : Event) → source_of e.happening ≡ sources.Tap place → records_among place (es ++ e ∷ []) ≡ records_among place es + 1
one_here place es e is =
    among_more place es e ∙ ap (λ (s : Source). records_among place es + cond (is_from place s) 1 0) is ∙ ap (λ (b : Bool). records_among place es + cond b 1 0) (place_same place)

none_here : (place : Tap) (es : List Event) (e : Event) → (source_of e.happening ≡ sources.Tap place → ⊥) → records_among place (es ++ e ∷ []) ≡ records_among place es
none_here place es e apart = by (is_from place (source_of e.happening)) refl
  where
    by : (b : Bool) → is_from place (source_of e.happening) ≡ b → records_among place (es ++ e ∷ []) ≡ records_among place es
    by true is = absurd (apart (from_true place (source_of e.happening) is))
    by false is =
        let none : records_among place (es ++ e ∷ []) ≡ records_among place es + 0 = among_more place es e ∙ ap (λ (b : Bool). records_among place es + cond b 1 0) is in
        omega (arith, none)

-- the next event is of the capture whose turn it is
pub next_is : (ports : List Stream) (underlay : Stream) (index done moment : ℕ) (place : Tap) (e : Event) → IsNextEvent ports underlay index done moment e → IsAt (length ports) index place → source_of e.happening ≡ sources.Tap place
next_is ports underlay index done moment place e (inl h) at = absurd (never_change (length ports) place (subst (λ i. IsAt (length ports) i place) h.0 at))
next_is ports underlay index done moment place e (inr (other, r, also, lends, event)) at =
    let from : source_of e.happening ≡ sources.Tap other = ap (λ (e : Event). source_of e.happening) event in
    from ∙ ap sources.Tap (one_place (length ports) index other place also at)

-- of each capture as many records came as its turn counts
abbrev pub AreAsMany : ℕ → List Turn → List Event → Type 0
AreAsMany ports turns es = (place : Tap) (index : ℕ) (t : Turn) → IsAt ports index place → (slice_index_or turns index t).done ≡ records_among place es

within_turns : (n index : ℕ) (place : Tap) → IsAt n index place → index < n + 2
within_turns n index (Port p) at = omega (arith, at.0, at.2)
within_turns n index Underlay at = omega (arith, at)

-- at the begin none
pub none_came : (ports : ℕ) (turns : List Turn) → length turns ≡ ports + 2 → ((t : Turn) (k : ℕ) → k < length turns → (slice_index_or turns k t).done ≤ 0) → AreAsMany ports turns []
none_came ports turns size none place index t at =
    let there = within_turns ports index place at in
    let few = none t index (omega (arith, there, size)) in
    omega (arith, few)

pub one_came : (ports : List Stream) (underlay : Stream) (turns new : List Turn) (index moment : ℕ) (es : List Event) (e : Event) → AreAsMany (length ports) turns es
    → ((t : Turn) → IsNextEvent ports underlay index (slice_index_or turns index t).done moment e) → CountsOne index turns new → AreAsMany (length ports) new (es ++ e ∷ [])
one_came ports underlay turns new index moment es e many next one place i t at = by (i == index) refl
  where
    by : (b : Bool) → (i == index) ≡ b → (slice_index_or new i t).done ≡ records_among place (es ++ e ∷ [])
    by true is =
        let same : i ≡ index = eqb-true i index is in
        let here : slice_index_or (slice_set turns index one.turn) index t ≡ one.turn = get_or-set_same turns index one.turn t one.there in
        let place_at : IsAt (length ports) index place = subst (λ i. IsAt (length ports) i place) same at in
        let old = many place index t place_at in
        let done = (slice_index_or turns index t).done in
        let more = one_here place es e (next_is ports underlay index done moment place e (next t) place_at) in
        let count = one.count t in
        rw (same, one.changed, here) (omega (arith, count, old, more))
    by false is =
        let apart : i ≢ index = eqb-false i index is in
        let here : slice_index_or (slice_set turns index one.turn) i t ≡ slice_index_or turns i t = get_or-set_other turns index i one.turn t apart in
        let old = many place i t at in
        let none = none_here place es e (λ of_it. apart (next_source ports underlay index i (slice_index_or turns index t).done moment place e (next t) at of_it)) in
        rw (one.changed, here) (omega (arith, old, none))

module _ (texts : List (List ℕ)) (text : List ℕ) (turns : List Turn) (ports : List Stream) (underlay : Stream) (es : List Event) (read : AreRead texts text turns ports underlay) (many : AreAsMany (length ports) turns es) where
  -- so a source was read
  read_so : (place : Tap) (index : ℕ) → IsAt (length ports) index place
      → (next : Option ℕ) × IsRead (octets_at texts text place) (record { done = records_among place es; next = next }) (source_at ports underlay place)
  read_so place index at =
      let t : Turn = record { done = 0; next = None } in
      let so = read.each place index t at in
      ((slice_index_or turns index t).next, record { done = so.done; count = sym (many place index t at) ∙ so.count; stands = so.stands })

  -- and so each one was
  pub all_so : (result : Result (Unit {0}) StreamFault) → AreReadBehind texts text es ports underlay result
  all_so result place index at other = read_so place index (subst (λ n. IsAt n index place) read.many at)

  -- behind an event more, those that aren't its source
  pub others_so : (index moment : ℕ) (source : Tap) (e : Event) (new : List Stream) (new_underlay s : Stream) → ((t : Turn) → IsNextEvent ports underlay index (slice_index_or turns index t).done moment e)
      → IsAt (length ports) index source → IsChangedAt source ports underlay new new_underlay s → (place : Tap) (i : ℕ) → IsAt (length texts) i place → place ≢ source
      → (next : Option ℕ) × IsRead (octets_at texts text place) (record { done = records_among place (es ++ e ∷ []); next = next }) (source_at new new_underlay place)
  others_so index moment source e new new_underlay s next source_at_index changed place i at apart =
      let t : Turn = record { done = 0; next = None } in
      let also : IsAt (length ports) i place = subst (λ n. IsAt n i place) read.many at in
      let elsewhere : i ≢ index = λ is. apart (one_place (length ports) index place source (subst (λ i. IsAt (length ports) i place) is also) source_at_index) in
      let none = none_here place es e (λ of_it. elsewhere (next_source ports underlay index i (slice_index_or turns index t).done moment place e (next t) also of_it)) in
      let so = read_so place i also in
      let stays = unchanged (length ports) index i source place ports new underlay new_underlay s refl source_at_index also elsewhere changed in (
        so.0,
        subst (λ n. IsRead (octets_at texts text place) (record { done = n; next = so.0 }) (source_at new new_underlay place)) (sym none)
            (subst (IsRead (octets_at texts text place) (record { done = records_among place es; next = so.0 })) (sym stays) so.1),
      )
