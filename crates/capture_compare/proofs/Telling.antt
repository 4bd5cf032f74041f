-- What is told where a capture is not read on.
use Rattle.std.proofs.Common.{◌≡◌, ◌≢◌, ◌∙◌, sym, ap, subst, ℕ, List, [], ◌∷◌, ◌++◌, arith, Some, None}
use Rattle.std.proofs.lemmas.List.{append-nil}
use Rattle.pcap.specs.Record.{Record}
use Rattle.pcap.specs.Source.{Stream}
use Rattle.capture_compare.specs.Sifted.{Sifting}
use Rattle.record_match.specs.declared.clock.Clock.{Clock}
use Rattle.capture_compare.specs.Clocked.{Seen, latest, on_clock, received_by, sent_by, timed}
use Rattle.capture_compare.specs.Compared.{AllHadRoom, AreCounts, IsReceivedFault, IsSentFault, Stops, fault_in, records_in}
use Rattle.capture_compare.specs.Turns.{IsItsFault, StopsBehind}
use Rattle.capture_compare.specs.declared.fault.CompareFault.{CompareFault}
use Rattle.capture_compare.specs.declared.fault.CompareFault.TheVariants as faults
use Rattle.capture_compare.specs.declared.fault.Side.{Side}
use Rattle.capture_compare.specs.declared.fault.Side.TheVariants as sides
use Rattle.capture_compare.proofs.Clocking.{StartsAt, clock-append}
use Rattle.capture_compare.specs.declared.carried.key.Manner.{Manner}

-- what was sent was taken up to a record at this moment; what was received, before it
pub record AfterSent (clock : Clock) (received : List ℕ) (c : Sifting) (S R : List Seen) : Type 0 where
  pub counts : AreCounts clock.within S (received_by S R) c
  pub room : AllHadRoom clock.within R [] S
  pub first : S ≢ [] → received_by S R ≡ R → fault_in sides.Received received ≡ None

pub sent-stops : (manner : Manner) (clock : Clock) (sent received : List ℕ) (c : Sifting) (rs : List Record) (R : List Seen) (s0 : Stream) (fault : CompareFault)
    → s0.supply.rest ≡ Some sent → StopsBehind sides.Sent s0 rs fault → AfterSent clock received c (on_clock manner clock.sent_delay rs) R
    → Stops clock sent received c (on_clock manner clock.sent_delay (records_in sent)) R fault
sent-stops manner clock sent received c rs R s0 (faults.Read of) e h told = by of h.0
  where
    by : (of : Side) → of ≡ sides.Sent → Stops clock sent received c (on_clock manner clock.sent_delay (records_in sent)) R (faults.Read of)
    by sides.Sent is =
        let behind = h.1.all sent e in
        record {
          front = on_clock manner clock.sent_delay rs;
          behind = timed manner clock.sent_delay (latest (on_clock manner clock.sent_delay rs)) behind.0;
          parts = ap (λ (l : List Record). on_clock manner clock.sent_delay l) behind.1 ∙ clock-append manner clock.sent_delay rs behind.0;
          counts = told.counts;
          room = told.room;
        }
    by sides.Received is = absurd cc
sent-stops manner clock sent received c rs R s0 (faults.Header of fault) e h told = by of h.0 h.1
  where
    by : (of : Side) → of ≡ sides.Sent → IsItsFault sides.Sent s0 rs (faults.Header of fault) → Stops clock sent received c (on_clock manner clock.sent_delay (records_in sent)) R (faults.Header of fault)
    by sides.Sent is its =
        let all = its.all sent e in
        subst (λ (l : List Record). IsSentFault clock sent received c (on_clock manner clock.sent_delay l) R (faults.Header sides.Sent fault)) (sym all.0)
        (record { fault_is = all.1; counts = told.counts; room = told.room; first = told.first })
    by sides.Received is its = absurd cc
sent-stops manner clock sent received c rs R s0 (faults.Record of n fault) e h told = by of h.0 h.1
  where
    by : (of : Side) → of ≡ sides.Sent → IsItsFault sides.Sent s0 rs (faults.Record of n fault) → Stops clock sent received c (on_clock manner clock.sent_delay (records_in sent)) R (faults.Record of n fault)
    by sides.Sent is its =
        let all = its.all sent e in
        subst (λ (l : List Record). IsSentFault clock sent received c (on_clock manner clock.sent_delay l) R (faults.Record sides.Sent n fault)) (sym all.0)
        (record { fault_is = all.1; counts = told.counts; room = told.room; first = told.first })
    by sides.Received is its = absurd cc
sent-stops manner clock sent received c rs R s0 (faults.Full moment) e h told = absurd h

-- the same of what was received, and what was sent before it or at its moment
pub record AfterReceived (clock : Clock) (sent : List ℕ) (c : Sifting) (S R : List Seen) : Type 0 where
  pub counts : AreCounts clock.within (sent_by R S) R c
  pub room : (ys : List Seen) → StartsAt (latest R) ys → AllHadRoom clock.within (R ++ ys) [] (sent_by R S)
  pub first : sent_by R S ≡ S → fault_in sides.Sent sent ≡ None

pub starts-late : (manner : Manner) (delay l : ℕ) (rs : List Record) → StartsAt l (timed manner delay l rs)
starts-late manner delay l [] = tt
starts-late manner delay l (r ∷ rs) = omega arith

pub received-stops : (manner : Manner) (clock : Clock) (sent received : List ℕ) (c : Sifting) (rs : List Record) (S : List Seen) (r0 : Stream) (fault : CompareFault)
    → r0.supply.rest ≡ Some received → StopsBehind sides.Received r0 rs fault → AfterReceived clock sent c S (on_clock manner clock.received_delay rs)
    → Stops clock sent received c S (on_clock manner clock.received_delay (records_in received)) fault
received-stops manner clock sent received c rs S r0 (faults.Read of) e h told = by of h.0
  where
    by : (of : Side) → of ≡ sides.Received → Stops clock sent received c S (on_clock manner clock.received_delay (records_in received)) (faults.Read of)
    by sides.Sent is = absurd cc
    by sides.Received is =
        let behind = h.1.all received e in
        let rest = timed manner clock.received_delay (latest (on_clock manner clock.received_delay rs)) behind.0 in
        let all = ap (λ (l : List Record). on_clock manner clock.received_delay l) behind.1 ∙ clock-append manner clock.received_delay rs behind.0 in
        record {
          front = on_clock manner clock.received_delay rs;
          behind = rest;
          parts = all;
          counts = told.counts;
          room = subst (λ (l : List Seen). AllHadRoom clock.within l [] (sent_by (on_clock manner clock.received_delay rs) S)) (sym all)
              (told.room rest (starts-late manner clock.received_delay (latest (on_clock manner clock.received_delay rs)) behind.0));
        }
received-stops manner clock sent received c rs S r0 (faults.Header of fault) e h told = by of h.0 h.1
  where
    by : (of : Side) → of ≡ sides.Received → IsItsFault sides.Received r0 rs (faults.Header of fault) → Stops clock sent received c S (on_clock manner clock.received_delay (records_in received)) (faults.Header of fault)
    by sides.Sent is its = absurd cc
    by sides.Received is its =
        let all = its.all received e in
        subst (λ (l : List Record). IsReceivedFault clock sent received c S (on_clock manner clock.received_delay l) (faults.Header sides.Received fault)) (sym all.0)
        (record {
          fault_is = all.1;
          counts = told.counts;
          room = subst (λ (l : List Seen). AllHadRoom clock.within l [] (sent_by (on_clock manner clock.received_delay rs) S)) (append-nil (on_clock manner clock.received_delay rs)) (told.room [] tt);
          first = told.first;
        })
received-stops manner clock sent received c rs S r0 (faults.Record of n fault) e h told = by of h.0 h.1
  where
    by : (of : Side) → of ≡ sides.Received → IsItsFault sides.Received r0 rs (faults.Record of n fault) → Stops clock sent received c S (on_clock manner clock.received_delay (records_in received)) (faults.Record of n fault)
    by sides.Sent is its = absurd cc
    by sides.Received is its =
        let all = its.all received e in
        subst (λ (l : List Record). IsReceivedFault clock sent received c S (on_clock manner clock.received_delay l) (faults.Record sides.Received n fault)) (sym all.0)
        (record {
          fault_is = all.1;
          counts = told.counts;
          room = subst (λ (l : List Seen). AllHadRoom clock.within l [] (sent_by (on_clock manner clock.received_delay rs) S)) (append-nil (on_clock manner clock.received_delay rs)) (told.room [] tt);
          first = told.first;
        })
received-stops manner clock sent received c rs S r0 (faults.Full moment) e h told = absurd h
