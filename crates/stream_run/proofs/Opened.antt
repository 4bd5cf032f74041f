-- The sources of a run, opened one after another.
use Rattle.std.proofs.Common.{◌≡◌, ◌≢◌, ◌∙◌, refl, sym, ap, subst, ℕ, ◌+◌, ◌-◌, ◌<◌, ◌≤◌, ◌==◌, Bool, true, false, List, length, arith, Result, Ok, Err}
use Rattle.std.specs.Prelude.{All}
use Rattle.std.proofs.lemmas.Bool.{eqb-true, eqb-false}
use Rattle.pcap.specs.Source.{Stream}
use Rattle.timeline.specs.declared.source.Tap.{Tap}
use Rattle.timeline.specs.declared.source.Tap.TheVariants.{Port, Underlay}
use Rattle.capture_run.specs.declared.fault.RunFault.TheVariants as faults
use Rattle.stream_run.specs.Begun.{AreBegun, IsBegun, IsUnread, RefusesHeader, OpensAt, OpensInTurn, ReadsOn}
use Rattle.stream_run.specs.Read.{AreQuiet, GivesUpAt, ReadsWith}
use Rattle.stream_run.specs.Steps.{IsAt, source_at}
use Rattle.stream_run.specs.declared.fault.StreamFault.{StreamFault}
use Rattle.stream_run.specs.declared.fault.StreamFault.TheVariants as stream
use Rattle.stream_run.proofs.Readying.{changed_here, gave_up, ports_as_many, quiet_at, unchanged}
use Rattle.stream_run.proofs.Running.{gives_up_on, quiet_on}

-- ---- places

pub at_least_one : (n i : ℕ) (place : Tap) → IsAt n i place → 1 ≤ i
at_least_one n i (Port p) at = omega (arith, at.0, at.1)
at_least_one n i Underlay at = omega (arith, at)

same_place : (n i : ℕ) (a b : Tap) → IsAt n i a → IsAt n i b → a ≡ b
same_place n i (Port p) (Port q) at also = ap Port (sym at.0 ∙ also.0)
same_place n i (Port p) Underlay at also = absurd (omega (arith, at.0, at.2, also))
same_place n i Underlay (Port q) at also = absurd (omega (arith, also.0, also.2, at))
same_place n i Underlay Underlay at also = refl

pub new_at : (ports : List Stream) (underlay : Stream) (i : ℕ) (place : Tap) → All IsUnread ports → IsUnread underlay → IsAt (length ports) i place → IsUnread (source_at ports underlay place)
new_at ports underlay i (Port p) all one at = all (p - 1) underlay (omega (arith, at.1, at.2))
new_at ports underlay i Underlay all one at = one

-- ---- the reads of two steps together

module _ {T : Type 0} where
  pub reads_behind : (a b c : List Stream) (x y z : Stream) (result : Result T StreamFault) → AreQuiet a x b y → ReadsWith b y c z result → ReadsWith a x c z result
  reads_behind a b c x y z (Ok v) quiet reads = quiet_on a b c x y z quiet reads
  reads_behind a b c x y z (Err (stream.Run f)) quiet reads = quiet_on a b c x y z quiet reads
  reads_behind a b c x y z (Err (stream.Write target)) quiet reads = quiet_on a b c x y z quiet reads
  reads_behind a b c x y z (Err (stream.Read place)) quiet reads = gives_up_on place a b c x y z quiet reads

-- ---- one after another

-- the sources in front of this index are open, and the others as they were
pub record OpenSoFar (index : ℕ) (ports : List Stream) (underlay : Stream) (now : List Stream) (now_underlay : Stream) : Type 0 where
  pub first : 1 ≤ index
  pub many : length now ≡ length ports
  pub begun : AreBegun index ports underlay now now_underlay
  pub left : (place : Tap) (i : ℕ) → index ≤ i → IsAt (length ports) i place → source_at now now_underlay place ≡ source_at ports underlay place
  pub quiet : AreQuiet ports underlay now now_underlay

pub none_open : (ports : List Stream) (underlay : Stream) → OpenSoFar 1 ports underlay ports underlay
none_open ports underlay = record {
  first = omega arith;
  many = refl;
  begun = λ place i lt at. absurd (omega (arith, lt, at_least_one (length ports) i place at));
  left = λ place i le at. refl;
  quiet = record { ports = refl; underlay = refl };
}

module _ (index : ℕ) (ports : List Stream) (underlay : Stream) (now : List Stream) (now_underlay : Stream) (so_far : OpenSoFar index ports underlay now now_underlay) where
  pub still_new : All IsUnread ports → IsUnread underlay → (place : Tap) → IsAt (length now) index place → IsUnread (source_at now now_underlay place)
  still_new all one place at =
      let here = subst (λ n. IsAt n index place) so_far.many at in
      subst IsUnread (sym (so_far.left place index (omega arith) here)) (new_at ports underlay index place all one here)

  -- those in front of it stay as they are
  begun_still : (new : List Stream) (new_underlay : Stream) (result : Result (Unit {0}) StreamFault) → OpensAt index now now_underlay new new_underlay result → AreBegun index ports underlay new new_underlay
  begun_still new new_underlay result opens place i lt at =
      subst (IsBegun (source_at ports underlay place))
      (sym (unchanged (length now) index i opens.place place now new now_underlay new_underlay opens.source refl opens.at (subst (λ n. IsAt n i place) (sym so_far.many) at) (λ e. omega (arith, e, lt)) opens.changed))
      (so_far.begun place i lt at)

  -- the one that is opened was as at the begin
  old_source : (new : List Stream) (new_underlay : Stream) (result : Result (Unit {0}) StreamFault) (opens : OpensAt index now now_underlay new new_underlay result)
      → source_at now now_underlay opens.place ≡ source_at ports underlay opens.place
  old_source new new_underlay result opens = so_far.left opens.place index (omega arith) (subst (λ n. IsAt n index opens.place) so_far.many opens.at)

  pub one_open : (new : List Stream) (new_underlay : Stream) → OpensAt index now now_underlay new new_underlay (Ok tt) → OpenSoFar (index + 1) ports underlay new new_underlay
  one_open new new_underlay opens = record {
    first = omega arith;
    many = ports_as_many opens.place now new now_underlay new_underlay opens.source opens.changed ∙ so_far.many;
    begun = λ place i lt at. by place i lt at (i == index) refl;
    left = λ place i le at.
        unchanged (length now) index i opens.place place now new now_underlay new_underlay opens.source refl opens.at (subst (λ n. IsAt n i place) (sym so_far.many) at) (λ e. omega (arith, e, le)) opens.changed
        ∙ so_far.left place i (omega (arith, le)) at;
    quiet = quiet_on ports now new underlay now_underlay new_underlay so_far.quiet
        (quiet_at opens.place index now new now_underlay new_underlay opens.source opens.at opens.changed opens.opening.reads);
  }
    where
      here : (place : Tap) → IsAt (length ports) index place → IsBegun (source_at ports underlay place) (source_at new new_underlay place)
      here place at =
          let at_now = subst (λ n. IsAt n index place) (sym so_far.many) at in
          let place_is : opens.place ≡ place = same_place (length now) index opens.place place opens.at at_now in
          let is : source_at new new_underlay place ≡ opens.source = changed_here (length now) index opens.place place now new now_underlay new_underlay opens.source refl opens.at at_now opens.changed in
          let old : source_at now now_underlay opens.place ≡ source_at ports underlay place = old_source new new_underlay (Ok tt) opens ∙ ap (source_at ports underlay) place_is in
          subst (IsBegun (source_at ports underlay place)) (sym is) (record { open_ = opens.opening.open_; reads = subst (λ s. ReadsOn s opens.source) old opens.opening.header })

      by : (place : Tap) (i : ℕ) → i < index + 1 → IsAt (length ports) i place → (b : Bool) → (i == index) ≡ b → IsBegun (source_at ports underlay place) (source_at new new_underlay place)
      by place i lt at true is = here place (subst (λ k. IsAt (length ports) k place) (eqb-true i index is) at)
      by place i lt at false is =
          let apart : i ≢ index = eqb-false i index is in
          begun_still new new_underlay (Ok tt) opens place i (omega (arith, lt, apart)) at

  pub open_stops : (new : List Stream) (new_underlay : Stream) (fault : StreamFault) → OpensAt index now now_underlay new new_underlay (Err fault) → OpensInTurn ports underlay new new_underlay (Err fault)
  open_stops new new_underlay (stream.Run faults.PortCount) opens = absurd opens.opening.header
  open_stops new new_underlay (stream.Run (faults.Settings f)) opens = absurd opens.opening.header
  open_stops new new_underlay (stream.Run (faults.Changes f)) opens = absurd opens.opening.header
  open_stops new new_underlay (stream.Run (faults.Record place n f)) opens = absurd opens.opening.header
  open_stops new new_underlay (stream.Run faults.OutOfMemory) opens = absurd opens.opening.header
  open_stops new new_underlay (stream.Write target) opens = absurd opens.opening.header
  open_stops new new_underlay (stream.Run (faults.Capture place f)) opens =
      let header = opens.opening.header in
      let is = sym header.0 in (
        index,
        subst (IsAt (length ports) index) is (subst (λ n. IsAt n index opens.place) so_far.many opens.at),
        begun_still new new_underlay (Err (stream.Run (faults.Capture place f))) opens,
        subst (λ s. RefusesHeader s f) (old_source new new_underlay (Err (stream.Run (faults.Capture place f))) opens ∙ ap (source_at ports underlay) is) header.1,
      )
  open_stops new new_underlay (stream.Read place) opens =
      let is = sym opens.opening.header in (
        index,
        subst (IsAt (length ports) index) is (subst (λ n. IsAt n index opens.place) so_far.many opens.at),
        begun_still new new_underlay (Err (stream.Read place)) opens,
      )

  reads_one : (new : List Stream) (new_underlay : Stream) (fault : StreamFault) → OpensAt index now now_underlay new new_underlay (Err fault) → ReadsWith {T = Unit {0}} now now_underlay new new_underlay (Err fault)
  reads_one new new_underlay (stream.Run f) opens = quiet_at opens.place index now new now_underlay new_underlay opens.source opens.at opens.changed opens.opening.reads
  reads_one new new_underlay (stream.Write target) opens = absurd opens.opening.reads
  reads_one new new_underlay (stream.Read place) opens =
      let reads = opens.opening.reads in
      subst (λ p. GivesUpAt p now now_underlay new new_underlay) (sym reads.0) (gave_up opens.place index now new now_underlay new_underlay opens.source opens.at opens.changed reads.1)

  pub open_stops_reads : (new : List Stream) (new_underlay : Stream) (fault : StreamFault) → OpensAt index now now_underlay new new_underlay (Err fault) → ReadsWith {T = Unit {0}} ports underlay new new_underlay (Err fault)
  open_stops_reads new new_underlay fault opens = reads_behind {T = Unit {0}} ports now new underlay now_underlay new_underlay (Err fault) so_far.quiet (reads_one new new_underlay fault opens)
