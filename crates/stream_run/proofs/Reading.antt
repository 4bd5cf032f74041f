-- What an event and the fetch behind it tell of the octets of a run's captures.
use Rattle.std.proofs.Common.{◌≡◌, ◌≢◌, ◌∙◌, refl, sym, ap, subst, ℕ, ◌+◌, ◌<◌, inl, inr, List, [], ◌∷◌, ◌++◌, length, length-append, drop, slice_index_or, slice_set, arith, Option, Some, Result, Ok, Err}
use Rattle.std.proofs.lemmas.List.{length-set}
use Rattle.pcap.specs.Record.{Record}
use Rattle.pcap.specs.Source.{Stream}
use Rattle.pcap.specs.declared.stream.fault.SourceFault.{SourceFault}
use Rattle.overlay.specs.declared.settings.change.TimedChange.{TimedChange}
use Rattle.timeline.specs.declared.event.Event.{Event}
use Rattle.timeline.specs.declared.source.Source.TheVariants as sources
use Rattle.timeline.specs.declared.source.Tap.{Tap}
use Rattle.timeline.specs.declared.source.Tap.TheVariants.{Port, Underlay}
use Rattle.endpoint_core.specs.Step.{State}
use Rattle.capture_run.specs.declared.fault.RunFault.TheVariants as faults
use Rattle.stream_run.specs.Coming.{IsRecordBefore, coming, source_events}
use Rattle.stream_run.specs.Fault.{fault_of}
use Rattle.stream_run.specs.Fetched.{IsFetch, IsFetched, ReadsOne, fetched}
use Rattle.stream_run.specs.Read.{IsRead}
use Rattle.stream_run.specs.Stage.{Drains}
use Rattle.stream_run.specs.Steps.{AreRead, AreReady, Fetches, FetchesAt, FetchesFrom, IsAt, IsChangedAt, IsNextEvent, Run, StayBut, octets_at, run_at, source_at}
use Rattle.stream_run.specs.Turns.{IsFirst, IsLater, IsNoSooner}
use Rattle.stream_run.specs.declared.fault.StreamFault.{StreamFault}
use Rattle.stream_run.specs.declared.fault.StreamFault.TheVariants as stream
use Rattle.stream_run.specs.declared.turn.First.{First}
use Rattle.stream_run.specs.declared.turn.Turn.{Turn}
use Rattle.stream_run.proofs.Merging.{comes_first}
use Rattle.stream_run.proofs.Readying.{IsAsked, changed_here, never_change, set_each}
use Rattle.stream_run.proofs.Telling.{are_ahead, greatest_more, lent_next, next_left}

-- ---- the event

pub takes_first : (changes : List TimedChange) (count : ℕ) (texts : List (List ℕ)) (text : List ℕ) (ports : List Stream) (underlay : Stream) (turns : List Turn) (state : State) (number : ℕ) (before : Drains) (first : First)
    (e : Event) (t turn : Turn) → AreReady changes count (run_at ports underlay turns state number before) → AreRead texts text turns ports underlay → IsFirst turns (length turns) first
    → IsNextEvent ports underlay first.index (slice_index_or turns first.index t).done first.moment e → e.moment ≡ first.moment → turn.done ≡ (slice_index_or turns first.index t).done + 1
    → coming changes texts text turns ≡ e ∷ coming changes texts text (slice_set turns first.index turn)
takes_first changes count texts text ports underlay turns state number before first e t turn ready read is_first next moment one =
    let sources = source_events changes texts text in
    let here = next_left changes texts text turns ports underlay ready.size ready.timely ready.change read first.index first.moment e t (is_first.next t) next in
    comes_first turns sources first.index e turn t (are_ahead changes texts text turns ports underlay ready.size ready.timely ready.change read) is_first.there
    (here ∙ ap (λ n. e ∷ drop n (slice_index_or sources first.index [])) (sym one))
    (λ d k lt. subst (λ m. IsLater m (slice_index_or turns k d).next) (sym moment) (is_first.later d k lt))
    (λ d k lt. subst (λ m. IsNoSooner m (slice_index_or turns k d).next) (sym moment) (is_first.no_sooner d k lt))

-- ---- the fetch

-- one index is that of one capture
pub one_place : (n index : ℕ) (p q : Tap) → IsAt n index p → IsAt n index q → p ≡ q
one_place n index (Port p) (Port q) at also = let same : p ≡ q = omega (arith, at.0, also.0) in ap Port same
one_place n index (Port p) Underlay at also = absurd (omega (arith, at.0, at.2, also))
one_place n index Underlay (Port q) at also = absurd (omega (arith, also.0, also.2, at))
one_place n index Underlay Underlay at also = refl

-- a fetch of the source that stands here, told of the source with its index
pub fetches_from : (changes : List TimedChange) (index done latest : ℕ) (ports : List Stream) (underlay : Stream) (new : List Stream) (new_underlay : Stream) (place : Tap) (s : Stream) (next : Option ℕ) (result : Result (Unit {0}) SourceFault)
    → IsAt (length ports) index place → IsChangedAt place ports underlay new new_underlay s → IsFetch (source_at ports underlay place) s place done latest (fetched place done next result)
    → FetchesFrom changes index done latest ports underlay new new_underlay next result
fetches_from changes index done latest ports underlay new new_underlay place s next (Ok x) at changed fetch = inr (place, s, at, changed, fetch)
fetches_from changes index done latest ports underlay new new_underlay place s next (Err fault) at changed fetch = λ tap there.
    let same : place ≡ tap = one_place (length ports) index place tap at (there (λ zero. never_change (length ports) place (subst (λ i. IsAt (length ports) i place) zero at))) in
    subst (λ p. FetchesAt changes index done latest ports underlay new new_underlay (Err (fault_of p (done + 1) fault))) same (inr (place, s, at, changed, fetch))

-- its fault, as it is told of the run
pub fault_from : (changes : List TimedChange) (index done latest : ℕ) (ports : List Stream) (underlay : Stream) (new : List Stream) (new_underlay : Stream) (next : Option ℕ) (fault : SourceFault) (tap : Tap) (told : StreamFault) (n : ℕ)
    → told ≡ fault_of tap (done + 1) fault → (index ≢ 0 → IsAt n index tap) → n ≡ length ports → FetchesFrom changes index done latest ports underlay new new_underlay next (Err fault)
    → FetchesAt changes index done latest ports underlay new new_underlay (Err told)
fault_from changes index done latest ports underlay new new_underlay next fault tap told n is at many from =
    subst (λ f. FetchesAt changes index done latest ports underlay new new_underlay (Err f)) (sym is) (from tap (λ there. subst (λ m. IsAt m index tap) many (at there)))

-- a fetch of a source that lent its next record
told_by : (octets : List ℕ) (tap : Tap) (t : Turn) (old new : Stream) (latest : ℕ) (result : Result Turn StreamFault) → IsFetch old new tap (t.done + 1) latest result → IsRead octets t old → t.next ≡ Some latest
    → (rs : List Record) × (t.done + 1 ≡ length rs) × IsFetched octets rs tap new result
told_by octets tap t old new latest result fetch read next =
    let lends = lent_next octets tap latest t old read next in
    let rs = lends.done ++ lends.r ∷ [] in
    let size : t.done + 1 ≡ length rs = omega (arith, lends.count, length-append lends.done (lends.r ∷ [])) in
    (rs, size, fetch.told octets rs lends.lends.reading size (lends.moment_is ∙ sym (greatest_more lends.done lends.r)))

fetched_read : (octets : List ℕ) (tap : Tap) (t turn : Turn) (old new : Stream) (latest : ℕ) → IsFetch old new tap (t.done + 1) latest (Ok turn) → IsRead octets t old → t.next ≡ Some latest → IsRead octets turn new
fetched_read octets tap t turn old new latest fetch read next =
    let told = told_by octets tap t old new latest (Ok turn) fetch read next in
    record { done = told.0; count = fetch.count ∙ told.1; stands = told.2 }

read_here : (changes : List TimedChange) (texts : List (List ℕ)) (text : List ℕ) (index latest : ℕ) (ports new : List Stream) (underlay new_underlay : Stream) (t turn : Turn) (place : Tap)
    → IsAt (length ports) index place → IsRead (octets_at texts text place) t (source_at ports underlay place) → t.next ≡ Some latest
    → FetchesAt changes index (t.done + 1) latest ports underlay new new_underlay (Ok turn) → IsRead (octets_at texts text place) turn (source_at new new_underlay place)
read_here changes texts text index latest ports new underlay new_underlay t turn place at read next (inl h) = absurd (never_change (length ports) place (subst (λ i. IsAt (length ports) i place) h.0 at))
read_here changes texts text index latest ports new underlay new_underlay t turn place at read next (inr (other, s, also, changed, fetch)) =
    let same : other ≡ place = one_place (length ports) index other place also at in
    let there : source_at new new_underlay place ≡ s = changed_here (length ports) index other place ports new underlay new_underlay s refl also at changed in
    rw there (fetched_read (octets_at texts text place) place t turn (source_at ports underlay place) s latest (subst (λ p. IsFetch (source_at ports underlay p) s p (t.done + 1) latest (Ok turn)) same fetch) read next)

pub read_again : (changes : List TimedChange) (texts : List (List ℕ)) (text : List ℕ) (index latest done : ℕ) (ports new : List Stream) (underlay new_underlay : Stream) (turns : List Turn) (t turn : Turn)
    → AreRead texts text turns ports underlay → index < length turns → length turns ≡ length ports + 2 → (slice_index_or turns index t).next ≡ Some latest
    → IsAsked changes index done latest ports underlay new new_underlay turn
    → FetchesAt changes index ((slice_index_or turns index t).done + 1) latest ports underlay new new_underlay (Ok turn) → AreRead texts text (slice_set turns index turn) new new_underlay
read_again changes texts text index latest done ports new underlay new_underlay turns t turn read there size next asked fetched = record {
  many = read.many ∙ sym asked.many;
  each = λ place i d is_at. set_each (λ k (x : Turn). IsAt (length new) k place → IsRead (octets_at texts text place) x (source_at new new_underlay place)) turns index turn there
      (λ d k lt apart at_k. rw (asked.elsewhere place k (subst (λ n. IsAt n k place) asked.many at_k) apart) (read.each place k d (subst (λ n. IsAt n k place) asked.many at_k)))
      (λ at_k. let at = subst (λ n. IsAt n index place) asked.many at_k in
      read_here changes texts text index latest ports new underlay new_underlay (slice_index_or turns index t) turn place at (read.each place index t at) next fetched)
      d i (within place i is_at) is_at;
}
  where
    within : (place : Tap) (i : ℕ) → IsAt (length new) i place → i < length (slice_set turns index turn)
    within (Port p) i is_at = omega (arith, is_at.0, is_at.2, asked.many, size, length-set turns index turn)
    within Underlay i is_at = omega (arith, is_at, asked.many, size, length-set turns index turn)

-- ---- a fault

before_it : (ports : List Stream) (underlay : Stream) (index done moment n : ℕ) (place : Tap) (e : Event) → IsAt (length ports) index place → IsNextEvent ports underlay index done moment e → n ≡ done + 2 → IsRecordBefore place n e
before_it ports underlay index done moment n place e at (inl h) is = absurd (never_change (length ports) place (subst (λ i. IsAt (length ports) i place) h.0 at))
before_it ports underlay index done moment n place e at (inr (other, r, also, lends, event)) is =
    let same : other ≡ place = one_place (length ports) index other place also at in
    rw event (record { source = ap sources.Tap same; number = omega (arith, is) })

-- the other sources stand as before
pub stays_at_fault : (changes : List TimedChange) (index done latest : ℕ) (old new : Run) (fault : StreamFault) → FetchesAt changes index done latest old.ports old.underlay new.ports new.underlay (Err fault)
    → StayBut {T = Unit {0}} index old new (Err fault)
stays_at_fault changes index done latest old new fault (inl h) = let never = h.3 in absurd cc
stays_at_fault changes index done latest old new fault (inr (place, s, at, changed, fetch)) = by fault fetch.reads
  where
    by : (fault : StreamFault) → ReadsOne {T = Turn} place (source_at old.ports old.underlay place) s (Err fault) → StayBut {T = Unit {0}} index old new (Err fault)
    by (stream.Run f) reads = (place, s, at, changed)
    by (stream.Read p) reads =
        let same : place ≡ p = sym reads.0 in
        (s, subst (IsAt (length old.ports) index) same at, subst (λ p. IsChangedAt p old.ports old.underlay new.ports new.underlay s) same changed)
    by (stream.Write target) reads = absurd reads

pub fault_fetched : (changes : List TimedChange) (texts : List (List ℕ)) (text : List ℕ) (index latest : ℕ) (ports new : List Stream) (underlay new_underlay : Stream) (turns : List Turn) (t : Turn) (fault : StreamFault)
    (rest : List Event) (e : Event) (run : Run) → AreRead texts text turns ports underlay → (slice_index_or turns index t).next ≡ Some latest → IsNextEvent ports underlay index (slice_index_or turns index t).done latest e
    → FetchesAt changes index ((slice_index_or turns index t).done + 1) latest ports underlay new new_underlay (Err fault) → Fetches {T = Unit {0}} changes texts text rest e run (Err fault)
fault_fetched changes texts text index latest ports new underlay new_underlay turns t fault rest e run read next event (inl h) = let never = h.3 in absurd cc
fault_fetched changes texts text index latest ports new underlay new_underlay turns t fault rest e run read next event (inr (place, s, at, changed, fetch)) =
    let turn = slice_index_or turns index t in
    let told = told_by (octets_at texts text place) place turn (source_at ports underlay place) s latest (Err fault) fetch (read.each place index t at) next in
    by fault told.0 told.1 told.2
  where
    by : (fault : StreamFault) (rs : List Record) → (slice_index_or turns index t).done + 1 ≡ length rs → IsFetched (octets_at texts text place) rs place s (Err fault)
        → Fetches {T = Unit {0}} changes texts text rest e run (Err fault)
    by (stream.Run (faults.Record p n f)) rs size (same, faulty, is) = rw same (
      record { index = index; at = subst (λ m. IsAt m index place) (sym read.many) at; faulty = faulty },
      before_it ports underlay index (slice_index_or turns index t).done latest n place e at event (omega (arith, is, size)),
    )
    by (stream.Run (faults.Settings f)) rs size h = absurd h
    by (stream.Run (faults.Changes f)) rs size h = absurd h
    by (stream.Run faults.PortCount) rs size h = absurd h
    by (stream.Run (faults.Capture p f)) rs size h = absurd h
    by (stream.Run faults.OutOfMemory) rs size h = absurd h
    by (stream.Read p) rs size h = tt
    by (stream.Write target) rs size h = absurd h
