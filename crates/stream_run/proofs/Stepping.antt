-- One event, and the fetch behind it.
use Rattle.std.proofs.Common.{◌≡◌, ◌≤◌, ◌∙◌, refl, sym, ap, subst, ℕ, ◌+◌, Bool, true, false, List, length, ◌∷◌, slice_set, slice_index_or, arith, None, Result, Ok, Err}
use Rattle.pcap.specs.Source.{Stream}
use Rattle.overlay.specs.declared.settings.change.Change.{Change}
use Rattle.overlay.specs.declared.settings.change.TimedChange.{TimedChange}
use Rattle.timeline.specs.declared.event.Event.{Event}
use Rattle.endpoint_core.specs.Step.{State}
use Rattle.capture_run.specs.Outputs.{event_of}
use Rattle.capture_run.proofs.Among.{moment_among, ports_stay_among}
use Rattle.stream_run.specs.Coming.{coming}
use Rattle.stream_run.specs.Sieved.{kept}
use Rattle.stream_run.specs.Sights.{Sight, state_among}
use Rattle.stream_run.specs.Stage.{Drains}
use Rattle.stream_run.specs.Steps.{AreBehind, AreRead, AreReady, FailsWhere, FetchesAt, IsNextEvent, IsStep, changes_of, moment_at, run_at}
use Rattle.stream_run.specs.Turns.{IsFirst, IsNoSooner}
use Rattle.stream_run.specs.Watched.{IsSieved, IsWatchedStep}
use Rattle.stream_run.specs.declared.fault.StreamFault.{StreamFault}
use Rattle.stream_run.specs.declared.fault.StreamFault.TheVariants as stream
use Rattle.stream_run.specs.declared.fault.Target.{Target}
use Rattle.stream_run.specs.declared.turn.First.{First}
use Rattle.stream_run.specs.declared.turn.Turn.{Turn}
use Rattle.stream_run.proofs.Reading.{fault_fetched, read_again, stays_at_fault, takes_first}
use Rattle.stream_run.proofs.Readying.{asked, event_moment, later_again, next_up, no_write_fails, no_write_fetched, reads_fault, reads_turn, ready_again, stands_at_fault}
use Rattle.segment_set.specs.Segments.{Segments}

-- an event that is left out changes no moment, and one that is taken in sets its own
moment_kept : (segments : Segments) (cs : List Change) (takes : Bool) (s : State) (e : Event) → s.moment ≤ e.moment → (state_among segments cs s (kept takes e)).moment ≤ e.moment
moment_kept segments cs true s e le = omega (arith, moment_among segments s (event_of cs e))
moment_kept segments cs false s e le = le

ports_kept : (segments : Segments) (cs : List Change) (takes : Bool) (s : State) (e : Event)
    → length (state_among segments cs s (kept takes e)).bridges.settings.ports.ports ≡ length s.bridges.settings.ports.ports
ports_kept segments cs true s e = ports_stay_among segments s (event_of cs e)
ports_kept segments cs false s e = refl

module _ (segments : Segments) {S T : Type 0} (taken : S → List Event → List Event) (goes : S → Event → S → Type 0) (sees : T → Sight → T → Type 0) where
  module _ (changes : List TimedChange) (ports : List Stream) (underlay : Stream) (turns : List Turn) (state : State) (number : ℕ) (before : Drains) (first : First) (done new_number : ℕ) (new_state : State) (behind : Drains) (old_sieve new_sieve : S)
      (old_watch new_watch : T) where
    abbrev Sieved : Result (Unit {0}) Target → Type 0
    Sieved result = IsSieved segments taken goes sees changes ports underlay first.index done first.moment number new_number state new_state before behind old_sieve new_sieve old_watch new_watch result

    nexts : (result : Result (Unit {0}) Target) (sieved : Sieved result) → ((t : Turn) → done ≡ (slice_index_or turns first.index t).done) → (t : Turn)
        → IsNextEvent ports underlay first.index (slice_index_or turns first.index t).done first.moment sieved.e
    nexts result sieved same t = subst (λ k. IsNextEvent ports underlay first.index k first.moment sieved.e) (same t) sieved.next

    at_moment : (result : Result (Unit {0}) Target) (sieved : Sieved result) → sieved.e.moment ≡ first.moment
    at_moment result sieved = event_moment ports underlay first.index done first.moment sieved.e sieved.next

    -- where the captures hold some octets it is the first of the events that were to come
    firsts : (count : ℕ) (result : Result (Unit {0}) Target) (sieved : Sieved result) → AreReady changes count (run_at ports underlay turns state number before) → IsFirst turns (length turns) first
        → ((t : Turn) → done ≡ (slice_index_or turns first.index t).done) → (texts : List (List ℕ)) (text : List ℕ) → AreRead texts text turns ports underlay
        → (turn : Turn) → turn.done ≡ done + 1 → coming changes texts text turns ≡ sieved.e ∷ coming changes texts text (slice_set turns first.index turn)
    firsts count result sieved ready is_first same texts text read turn one =
        takes_first changes count texts text ports underlay turns state number before first sieved.e turn turn ready read is_first (nexts result sieved same turn)
        (at_moment result sieved) (one ∙ ap (λ n. n + 1) (same turn))

    times : (result : Result (Unit {0}) Target) (sieved : Sieved result) (d : Turn) → IsFirst turns (length turns) first → (m : ℕ) → AreBehind m turns → m ≤ sieved.e.moment
    times result sieved d is_first m sooner =
        let le : m ≤ first.moment = subst (IsNoSooner m) (is_first.next d) (sooner d first.index is_first.there) in
        omega (arith, le, at_moment result sieved)

    step_put : (count : ℕ) (target : Target) (d : Turn) → AreReady changes count (run_at ports underlay turns state number before) → IsFirst turns (length turns) first → ((t : Turn) → done ≡ (slice_index_or turns first.index t).done) → Sieved (Err target)
        → IsStep segments changes (run_at ports underlay turns state number before) (run_at ports underlay turns new_state new_number behind) first (Err (stream.Write target))
    step_put count target d ready is_first same sieved = record {
      e = sieved.e;
      takes = sieved.takes;
      moment = at_moment (Err target) sieved;
      time = times (Err target) sieved d is_first;
      next = nexts (Err target) sieved same;
      state = sieved.state;
      number = sieved.numbered;
      failed = sieved.failed;
      outputs = sieved.outputs;
      order = sieved.order;
      turns = tt;
      stay = (refl, refl);
      ready = λ count ready. tt;
      later = tt;
      reads = record { ports = refl; underlay = refl };
      told = λ texts text read.
          let turn : Turn = record { done = done + 1; next = None } in
          record { rest = coming changes texts text (slice_set turns first.index turn); first = firsts count (Err target) sieved ready is_first same texts text read turn refl; fetched = tt };
    }

    -- a fault of a fetch is none of a write
    fails_not : (new : List Stream) (new_underlay : Stream) (fault : StreamFault) (takes : Bool) → FetchesAt changes first.index (done + 1) first.moment ports underlay new new_underlay (Err fault) → FailsWhere {T = Unit {0}} takes (Err fault)
    fails_not new new_underlay (stream.Run f) takes fetched = tt
    fails_not new new_underlay (stream.Read place) takes fetched = tt
    fails_not new new_underlay (stream.Write target) takes fetched = absurd (no_write_fetched changes first.index (done + 1) first.moment ports underlay new new_underlay target fetched)

    step_fault : (count : ℕ) (new : List Stream) (new_underlay : Stream) (fault : StreamFault) (d : Turn) → AreReady changes count (run_at ports underlay turns state number before)
        → IsFirst turns (length turns) first → ((t : Turn) → done ≡ (slice_index_or turns first.index t).done)
        → Sieved (Ok tt) → FetchesAt changes first.index (done + 1) first.moment ports underlay new new_underlay (Err fault)
        → IsStep segments changes (run_at ports underlay turns state number before) (run_at new new_underlay turns new_state new_number behind) first (Err fault)
    step_fault count new new_underlay fault d ready is_first same sieved fetched = record {
      e = sieved.e;
      takes = sieved.takes;
      moment = at_moment (Ok tt) sieved;
      time = times (Ok tt) sieved d is_first;
      next = nexts (Ok tt) sieved same;
      state = sieved.state;
      number = sieved.numbered;
      failed = fails_not new new_underlay fault sieved.takes fetched;
      outputs = λ start o at. stands_at_fault changes first.index (done + 1) first.moment ports underlay new new_underlay fault start behind o _ fetched (sieved.outputs start o at);
      order = λ start o at. no_write_fails changes first.index (done + 1) first.moment ports underlay new new_underlay fault (changes_of changes) start behind (number + 1) state o sieved.e fetched;
      turns = tt;
      stay = stays_at_fault changes first.index (done + 1) first.moment (run_at ports underlay turns state number before) (run_at new new_underlay turns new_state new_number behind) fault fetched;
      ready = λ count ready. tt;
      later = tt;
      reads = reads_fault changes first.index (done + 1) first.moment ports underlay new new_underlay fault fetched;
      told = λ texts text read.
          let turn : Turn = record { done = done + 1; next = None } in
          let rest = coming changes texts text (slice_set turns first.index turn) in
          record {
            rest = rest;
            first = firsts count (Ok tt) sieved ready is_first same texts text read turn refl;
            fetched = fault_fetched changes texts text first.index first.moment ports new underlay new_underlay turns d fault rest sieved.e (run_at new new_underlay turns new_state new_number behind) read
                (is_first.next d) (nexts (Ok tt) sieved same d) (subst (λ n. FetchesAt changes first.index (n + 1) first.moment ports underlay new new_underlay (Err fault)) (same d) fetched);
          };
    }

    step_turn : (count : ℕ) (new : List Stream) (new_underlay : Stream) (turn d : Turn) → AreReady changes count (run_at ports underlay turns state number before) → IsFirst turns (length turns) first
        → ((t : Turn) → done ≡ (slice_index_or turns first.index t).done)
        → Sieved (Ok tt) → FetchesAt changes first.index (done + 1) first.moment ports underlay new new_underlay (Ok turn)
        → IsStep segments changes (run_at ports underlay turns state number before) (run_at new new_underlay (slice_set turns first.index turn) new_state new_number behind) first (Ok tt)
    step_turn count new new_underlay turn d ready is_first same sieved fetched =
        let event = at_moment (Ok tt) sieved in
        let up = next_up changes count ports underlay turns state number before first d ready is_first in
        let this = λ (zero : first.index ≡ 0). ap (moment_at changes) (same d) ∙ up.change zero in
        let asks = asked changes first.index done first.moment ports underlay new new_underlay turn ready.timely up.moment this fetched in
        let moment : new_state.moment ≤ first.moment =
        omega (arith, event, ap (λ (s : State). s.moment) sieved.state, moment_kept segments (changes_of changes) sieved.takes state sieved.e (omega (arith, up.time, event))) in
        record {
          e = sieved.e;
          takes = sieved.takes;
          moment = event;
          time = times (Ok tt) sieved d is_first;
          next = nexts (Ok tt) sieved same;
          state = sieved.state;
          number = sieved.numbered;
          failed = tt;
          outputs = sieved.outputs;
          order = λ start o at. tt;
          turns = record { there = is_first.there; turn = turn; changed = refl; count = λ t. asks.count ∙ ap (λ n. n + 1) (same t) };
          stay = tt;
          ready = λ many also.
              let few = subst (λ k. k ≤ many) (sym (same d)) (also.done d first.index is_first.there) in
              ready_again changes many ports underlay turns state number before new new_underlay new_state new_number behind first turn done also is_first few moment
              (ap (λ (s : State). length s.bridges.settings.ports.ports) sieved.state ∙ ports_kept segments (changes_of changes) sieved.takes state sieved.e) asks;
          later = later_again turns first turn sieved.e.moment is_first event asks.soon;
          reads = reads_turn changes first.index (done + 1) first.moment ports underlay new new_underlay turn fetched;
          told = λ texts text read. record {
            rest = coming changes texts text (slice_set turns first.index turn);
            first = firsts count (Ok tt) sieved ready is_first same texts text read turn asks.count;
            fetched = (
              read_again changes texts text first.index first.moment (done + 1) ports new underlay new_underlay turns d turn read is_first.there ready.size (is_first.next d) asks
                  (subst (λ n. FetchesAt changes first.index (n + 1) first.moment ports underlay new new_underlay (Ok turn)) (same d) fetched),
              refl,
            );
          };
        }

    -- ---- with what is seen

    pub shown_put : (count : ℕ) (target : Target) (d : Turn) → AreReady changes count (run_at ports underlay turns state number before) → IsFirst turns (length turns) first → ((t : Turn) → done ≡ (slice_index_or turns first.index t).done) → Sieved (Err target)
        → IsWatchedStep segments taken goes sees changes (run_at ports underlay turns state number before) (run_at ports underlay turns new_state new_number behind) first old_sieve new_sieve old_watch new_watch (Err (stream.Write target))
    unfolding step_put
    shown_put count target d ready is_first same sieved = record { step = step_put count target d ready is_first same sieved; sieved = sieved.sieved; went = sieved.went; seen = sieved.seen }

    pub shown_fault : (count : ℕ) (new : List Stream) (new_underlay : Stream) (fault : StreamFault) (d : Turn) → AreReady changes count (run_at ports underlay turns state number before)
        → IsFirst turns (length turns) first → ((t : Turn) → done ≡ (slice_index_or turns first.index t).done)
        → Sieved (Ok tt) → FetchesAt changes first.index (done + 1) first.moment ports underlay new new_underlay (Err fault)
        → IsWatchedStep segments taken goes sees changes (run_at ports underlay turns state number before) (run_at new new_underlay turns new_state new_number behind) first old_sieve new_sieve old_watch new_watch (Err fault)
    unfolding step_fault
    shown_fault count new new_underlay fault d ready is_first same sieved fetched = record { step = step_fault count new new_underlay fault d ready is_first same sieved fetched; sieved = sieved.sieved; went = sieved.went; seen = sieved.seen }

    pub shown_turn : (count : ℕ) (new : List Stream) (new_underlay : Stream) (turn d : Turn) → AreReady changes count (run_at ports underlay turns state number before) → IsFirst turns (length turns) first
        → ((t : Turn) → done ≡ (slice_index_or turns first.index t).done)
        → Sieved (Ok tt) → FetchesAt changes first.index (done + 1) first.moment ports underlay new new_underlay (Ok turn)
        → IsWatchedStep segments taken goes sees changes (run_at ports underlay turns state number before) (run_at new new_underlay (slice_set turns first.index turn) new_state new_number behind) first old_sieve new_sieve old_watch new_watch (Ok tt)
    unfolding step_turn
    shown_turn count new new_underlay turn d ready is_first same sieved fetched = record { step = step_turn count new new_underlay turn d ready is_first same sieved fetched; sieved = sieved.sieved; went = sieved.went; seen = sieved.seen }
