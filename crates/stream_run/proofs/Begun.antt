-- The first record of each capture, fetched one after another.
use Rattle.std.proofs.Common.{◌≡◌, ◌≢◌, ◌∙◌, refl, sym, ap, subst, ℕ, ◌+◌, ◌<◌, ◌≤◌, List, length, slice_set, slice_index_or, arith, Ok, Err, inl, inr}
use Rattle.std.proofs.lemmas.List.{length-set}
use Rattle.pcap.specs.Source.{Stream}
use Rattle.pcap.specs.declared.stream.fault.SourceFault.{SourceFault}
use Rattle.pcap.specs.declared.stream.fault.SourceFault.TheVariants as source
use Rattle.timeline.specs.declared.source.Tap.{Tap}
use Rattle.timeline.specs.declared.source.Tap.TheVariants.{Port, Underlay}
use Rattle.overlay.specs.declared.settings.change.TimedChange.{TimedChange}
use Rattle.endpoint_core.specs.Step.{State}
use Rattle.stream_run.specs.Begun.{AreAtFirst, OnlyReads}
use Rattle.stream_run.specs.Fault.{fault_of}
use Rattle.stream_run.specs.Fetched.{IsMoment, IsOpen}
use Rattle.stream_run.specs.Over.{BeginsIn}
use Rattle.stream_run.specs.Read.{AreQuiet, ReadsWith}
use Rattle.stream_run.specs.Stage.{Drains}
use Rattle.stream_run.specs.Steps.{AreRead, AreReady, FetchesAt, IsAt, LendsWhere, moment_at, run_at, source_at}
use Rattle.stream_run.specs.Turns.{IsNoSooner}
use Rattle.stream_run.specs.declared.fault.StreamFault.{StreamFault}
use Rattle.stream_run.specs.declared.turn.Turn.{Turn}
use Rattle.stream_run.proofs.Firsts.{AreReadBelow, all_read, fault_below, none_read, read_below}
use Rattle.stream_run.proofs.Opened.{reads_behind}
use Rattle.stream_run.proofs.Readying.{IsAsked, asked_capture, reads_fault, reads_turn, set_each}
use Rattle.stream_run.proofs.Running.{quiet_on}

-- ---- one fetch

-- what a source's fault is as one of the run
pub fault_only_reads : (tap : Tap) (n : ℕ) (fault : SourceFault) → OnlyReads (Err (fault_of tap n fault))
fault_only_reads tap n source.Read = tt
fault_only_reads tap n source.NotPcap = tt
fault_only_reads tap n source.BadLink = tt
fault_only_reads tap n source.TooLarge = tt
fault_only_reads tap n source.BadFraction = tt

-- the first of a capture
pub asked_first : (changes : List TimedChange) (index : ℕ) (ports : List Stream) (underlay : Stream) (new : List Stream) (new_underlay : Stream) (turn : Turn)
    → 1 ≤ index → FetchesAt changes index 0 0 ports underlay new new_underlay (Ok turn) → IsAsked changes index 0 0 ports underlay new new_underlay turn
asked_first changes index ports underlay new new_underlay turn first (inl h) = absurd (omega (arith, h.0, first))
asked_first changes index ports underlay new new_underlay turn first (inr h) = asked_capture changes index 0 0 ports underlay new new_underlay turn (omega arith) h

ready_fetched : (changes : List TimedChange) (index : ℕ) (ports : List Stream) (underlay : Stream) (turns : List Turn) (state : State) (d : Drains) (new : List Stream) (new_underlay : Stream) (turn : Turn)
    → 1 ≤ index → index < length turns → state.moment ≡ 0 → IsAsked changes index 0 0 ports underlay new new_underlay turn → AreReady changes 0 (run_at ports underlay turns state 0 d)
    → AreReady changes 0 (run_at new new_underlay (slice_set turns index turn) state 0 d)
ready_fetched changes index ports underlay turns state d new new_underlay turn first there none asked ready = record {
  timely = ready.timely;
  size = length-set turns index turn ∙ ready.size ∙ ap (λ n. n + 2) (sym asked.many);
  few = omega (arith, asked.many, ready.few);
  known = asked.many ∙ ready.known;
  behind = set_each (λ k (t : Turn). IsNoSooner state.moment t.next) turns index turn there (λ d k lt apart. ready.behind d k lt) (subst (λ m. IsNoSooner m turn.next) (sym none) asked.soon);
  moments = set_each (λ k (t : Turn). IsMoment t.next) turns index turn there (λ d k lt apart. ready.moments d k lt) asked.moment;
  done = set_each (λ k (t : Turn). t.done ≤ 0) turns index turn there (λ d k lt apart. ready.done d k lt) (omega (arith, asked.count));
  change = λ t. set_each (λ k (t : Turn). k ≡ 0 → t.next ≡ moment_at changes t.done) turns index turn there
      (λ d k lt apart zero. subst (λ k. (slice_index_or turns k d).next ≡ moment_at changes (slice_index_or turns k d).done) (sym zero) (ready.change d))
      (λ zero. absurd (omega (arith, zero, first))) t 0 (omega (arith, ready.size, length-set turns index turn)) refl;
  heads = λ place i t is_at. set_each (λ k (t : Turn). IsAt (length new) k place → LendsWhere t.next (source_at new new_underlay place)) turns index turn there
      (λ d k lt apart at_k. rw (asked.elsewhere place k (subst (λ n. IsAt n k place) asked.many at_k) apart) (ready.heads place k d (subst (λ n. IsAt n k place) asked.many at_k)))
      (λ at_k. asked.here place (subst (λ n. IsAt n index place) asked.many at_k)) t i (within place i is_at) is_at;
}
  where
    within : (place : Tap) (i : ℕ) → IsAt (length new) i place → i < length (slice_set turns index turn)
    within (Port p) i is_at = omega (arith, is_at.0, is_at.2, asked.many, ready.size, length-set turns index turn)
    within Underlay i is_at = omega (arith, is_at, asked.many, ready.size, length-set turns index turn)

-- ---- one after another

-- the turns in front of this index tell what is next
pub record FetchedSoFar (changes : List TimedChange) (index : ℕ) (ports : List Stream) (underlay : Stream) (turns : List Turn) (now : List Stream) (now_underlay : Stream) (now_turns : List Turn) : Type 0 where
  pub first : 1 ≤ index
  pub many : length now ≡ length ports
  pub size : length now_turns ≡ length turns
  pub open_ : (place : Tap) (i : ℕ) → index ≤ i → IsAt (length ports) i place → IsOpen (source_at now now_underlay place).standing
  pub quiet : AreQuiet ports underlay now now_underlay
  pub told : (texts : List (List ℕ)) (text : List ℕ) → AreAtFirst texts text ports underlay → AreReadBelow index texts text now_turns now now_underlay
  pub ready : (state : State) (d : Drains) → state.moment ≡ 0 → AreReady changes 0 (run_at ports underlay turns state 0 d) → AreReady changes 0 (run_at now now_underlay now_turns state 0 d)

pub none_fetched : (changes : List TimedChange) (ports : List Stream) (underlay : Stream) (turns : List Turn)
    → ((place : Tap) (i : ℕ) → IsAt (length ports) i place → IsOpen (source_at ports underlay place).standing) → FetchedSoFar changes 1 ports underlay turns ports underlay turns
none_fetched changes ports underlay turns are_open = record {
  first = omega arith;
  many = refl;
  size = refl;
  open_ = λ place i le at. are_open place i at;
  quiet = record { ports = refl; underlay = refl };
  told = λ texts text opened. none_read texts text turns ports underlay opened.many opened.each;
  ready = λ state d none ready. ready;
}

module _ (changes : List TimedChange) (index : ℕ) (ports : List Stream) (underlay : Stream) (turns : List Turn) (now : List Stream) (now_underlay : Stream) (now_turns : List Turn) (so_far : FetchedSoFar changes index ports underlay turns now now_underlay now_turns)
    (new : List Stream) (new_underlay : Stream) where
  pub one_fetched : (turn : Turn) → index < length now_turns → FetchesAt changes index 0 0 now now_underlay new new_underlay (Ok turn)
      → FetchedSoFar changes (index + 1) ports underlay turns new new_underlay (slice_set now_turns index turn)
  one_fetched turn there fetched =
      let asked = asked_first changes index now now_underlay new new_underlay turn so_far.first fetched in
      record {
        first = omega arith;
        many = asked.many ∙ so_far.many;
        size = length-set now_turns index turn ∙ so_far.size;
        open_ = λ place i le at.
            let apart : i ≢ index = λ e. omega (arith, e, le) in
            rw (asked.elsewhere place i (subst (λ n. IsAt n i place) (sym so_far.many) at) apart) (so_far.open_ place i (omega (arith, le)) at);
        quiet = quiet_on ports now new underlay now_underlay new_underlay so_far.quiet (reads_turn changes index 0 0 now now_underlay new new_underlay turn fetched);
        told = λ texts text opened. read_below changes texts text index now new now_underlay new_underlay now_turns turn (so_far.told texts text opened) (omega (arith, so_far.first)) there fetched;
        ready = λ state d none ready. ready_fetched changes index now now_underlay now_turns state d new new_underlay turn so_far.first there none asked (so_far.ready state d none ready);
      }

  pub fetch_stops : (fault : StreamFault) → FetchesAt changes index 0 0 now now_underlay new new_underlay (Err fault) → ReadsWith {T = Unit {0}} ports underlay new new_underlay (Err fault)
  fetch_stops fault fetched = reads_behind {T = Unit {0}} ports now new underlay now_underlay new_underlay (Err fault) so_far.quiet (reads_fault changes index 0 0 now now_underlay new new_underlay fault fetched)

  pub faults_told : (fault : StreamFault) (new_turns : List Turn) → FetchesAt changes index 0 0 now now_underlay new new_underlay (Err fault) → (texts : List (List ℕ)) (text : List ℕ) → AreAtFirst texts text ports underlay
      → BeginsIn {T = Unit {0}} texts text new_turns new new_underlay (Err fault)
  faults_told fault new_turns fetched texts text opened = fault_below changes texts text index now new now_underlay new_underlay now_turns new_turns fault (so_far.told texts text opened) fetched

-- behind the last one
pub all_fetched : (changes : List TimedChange) (index : ℕ) (ports : List Stream) (underlay : Stream) (turns : List Turn) (now : List Stream) (now_underlay : Stream) (now_turns : List Turn)
    → FetchedSoFar changes index ports underlay turns now now_underlay now_turns → index ≡ length ports + 2 → (texts : List (List ℕ)) (text : List ℕ) → AreAtFirst texts text ports underlay
    → AreRead texts text now_turns now now_underlay
all_fetched changes index ports underlay turns now now_underlay now_turns so_far is texts text opened =
    let end : index ≡ length now + 2 = is ∙ ap (λ n. n + 2) (sym so_far.many) in
    all_read texts text now_turns now now_underlay (subst (λ k. AreReadBelow k texts text now_turns now now_underlay) end (so_far.told texts text opened))
