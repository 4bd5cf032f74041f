-- Two captures amidst a comparison. It serves proofs.
use Rattle.std.specs.Prelude.{◌≡◌, ◌≢◌, ◌≤◌, ◌<◌, ℕ, ◌+◌, ◌*◌, ◌^◌, max, nat_le, if◌then◌else◌, Bool, true, false}
use Rattle.std.specs.Prelude.{List, [], ◌∷◌, ◌++◌, length, Option, Some, None, IfSome, IsSome, Result, Ok, Err}
use Rattle.pcap.specs.Record.{Record}
use Rattle.pcap.specs.declared.text.header.CaptureFault.TheVariants as capture
use Rattle.pcap.specs.declared.text.record.RecordFault.TheVariants as record_
use Rattle.pcap.specs.InTurn.{IsReading}
use Rattle.pcap.specs.Source.{Stream, New, ends_cut, lent, most_left}
use Rattle.pcap.specs.declared.stream.fault.SourceFault.{SourceFault}
use Rattle.pcap.specs.declared.stream.fault.SourceFault.TheVariants as source
use Rattle.record_match.specs.Compared.{Counted}
use Rattle.record_match.specs.Settled.{Fact, Shows}
use Rattle.record_match.specs.declared.clock.Clock.{Clock}
use Rattle.capture_compare.specs.Clocked.{AreBefore, AreUpTo, latest, on_clock}
use Rattle.capture_compare.specs.Sifted.{IsSifted, Sifting, sifting}
use Rattle.capture_compare.specs.Compared.{AllHadRoom, Tells, fault_in, is_cut_in, records_in}
use Rattle.capture_compare.specs.declared.aside.Aside.{Aside}
use Rattle.capture_compare.specs.declared.turn.Turn.{Turn}
use Rattle.capture_compare.specs.declared.turn.Turn.TheVariants as turns
use Rattle.capture_compare.specs.declared.coming.Coming.{Coming}
use Rattle.capture_compare.specs.declared.fault.CompareFault.{CompareFault}
use Rattle.capture_compare.specs.declared.fault.CompareFault.TheVariants as faults
use Rattle.capture_compare.specs.declared.fault.Side.{Side}
use Rattle.capture_compare.specs.declared.fault.Side.TheVariants as sides
use Rattle.capture_compare.specs.declared.carried.key.Manner.{Manner}

-- ---- one capture

-- a source lent these records in turn, and so many were counted
pub record HasLent (start now : Stream) (rs : List Record) (count : ℕ) : Type 0 where
  pub reading : (text : List ℕ) → start.supply.rest ≡ Some text → IsReading text rs now
  pub count_is : count ≡ length rs
  pub spent : 16 * length rs + most_left now ≤ most_left start
  pub begun : now.standing ≢ New

-- some records were taken of a capture, and the next one waits
pub record Waits (manner : Manner) (delay : ℕ) (start now : Stream) (rs : List Record) (count moment : ℕ) : Type 0 where
  pub next : Record
  pub lends : lent now.standing ≡ Some next
  pub taken : HasLent start now (rs ++ next ∷ []) count
  pub moment_is : moment ≡ max (next.moment + delay) (latest (on_clock manner delay rs))

-- all records of a capture were taken, it has no fault, and it is known whether it ends within a record
pub record IsDone (side : Side) (start now : Stream) (rs : List Record) : Type 0 where
  pub all : (text : List ℕ) → start.supply.rest ≡ Some text
      → (records_in text ≡ rs) × (fault_in side text ≡ None) × (ends_cut now.standing ≡ is_cut_in text)

-- by the moment of the next one
abbrev pub StandsBy : Manner → Side → ℕ → Stream → Stream → List Record → ℕ → Option ℕ → Type 0
StandsBy manner side delay start now rs count None = IsDone side start now rs
StandsBy manner side delay start now rs count (Some moment) = Waits manner delay start now rs count moment

-- where a capture stands
pub record Stands (manner : Manner) (side : Side) (delay : ℕ) (start now : Stream) (rs : List Record) (c : Coming) : Type 0 where
  pub side_is : c.side ≡ side
  pub delay_is : c.delay ≡ delay
  pub next : StandsBy manner side delay start now rs c.fetched c.next

-- a capture isn't read on behind some records: by a fault of its own, or where a read failed
pub record IsItsFault (side : Side) (start : Stream) (rs : List Record) (fault : CompareFault) : Type 0 where
  pub all : (text : List ℕ) → start.supply.rest ≡ Some text → (records_in text ≡ rs) × (fault_in side text ≡ Some fault)

pub record IsInFront (start : Stream) (rs : List Record) : Type 0 where
  pub all : (text : List ℕ) → start.supply.rest ≡ Some text → (behind : List Record) × (records_in text ≡ rs ++ behind)

abbrev pub StopsBehind : Side → Stream → List Record → CompareFault → Type 0
StopsBehind side start rs (faults.Read of) = (of ≡ side) × IsInFront start rs
StopsBehind side start rs (faults.Header of fault) = (of ≡ side) × IsItsFault side start rs (faults.Header of fault)
StopsBehind side start rs (faults.Record of n fault) = (of ≡ side) × IsItsFault side start rs (faults.Record of n fault)
StopsBehind side start rs (faults.Full moment) = ⊥

-- the next record was fetched, or why it wasn't
abbrev pub Fetches : Manner → Side → ℕ → Stream → Stream → List Record → Coming → Result (Unit {0}) CompareFault → Type 0
Fetches manner side delay start now rs c (Ok x) = Stands manner side delay start now rs c
Fetches manner side delay start now rs c (Err fault) = StopsBehind side start rs fault

-- a source's fault as one of a capture, at its record of this number
abbrev pub source_fault : Side → ℕ → SourceFault → CompareFault
source_fault side n source.Read = faults.Read side
source_fault side n source.NotPcap = faults.Header side capture.NotPcap
source_fault side n source.BadLink = faults.Header side capture.BadLink
source_fault side n source.TooLarge = faults.Record side n record_.TooLarge
source_fault side n source.BadFraction = faults.Record side n record_.BadFraction

-- ---- both

-- whose record comes next
abbrev pub turn_of : Option ℕ → Option ℕ → Turn
turn_of None None = turns.Done
turn_of (Some sent) None = turns.Sent sent
turn_of None (Some received) = turns.Received received
turn_of (Some sent) (Some received) = if nat_le sent received then turns.Sent sent else turns.Received received

-- one was taken, or there was no room for it at a moment
abbrev pub unless_full : Bool → ℕ → Result (Unit {0}) CompareFault
unless_full true moment = Ok tt
unless_full false moment = Err (faults.Full moment)

-- the records that were taken of both, and what was compared of them up to a moment
pub record Amidst (manner : Manner) (clock : Clock) (s0 r0 s r : Stream) (sending receiving : Coming) (c : Sifting) : Type 0 where
  pub sent : List Record
  pub received : List Record
  pub now : ℕ
  pub sent_stands : Stands manner sides.Sent clock.sent_delay s0 s sent sending
  pub received_stands : Stands manner sides.Received clock.received_delay r0 r received receiving
  pub within_is : c.window.within ≡ clock.within
  pub compared : IsSifted c (on_clock manner clock.sent_delay sent) (on_clock manner clock.received_delay received) now
  pub room : AllHadRoom clock.within (on_clock manner clock.received_delay received) [] (on_clock manner clock.sent_delay sent)
  pub sent_later : IfSome sending.next (λ m. (now ≤ m) × AreBefore m (on_clock manner clock.received_delay received))
  pub received_later : IfSome receiving.next (λ m. (now ≤ m) × AreUpTo m (on_clock manner clock.sent_delay sent))

-- what two captures tell once they stopped
abbrev pub Stopped : Manner → Clock → Stream → Stream → Sifting → Result (Unit {0}) CompareFault → Type 0
Stopped manner clock s0 r0 c result = (sent received : List ℕ) → s0.supply.rest ≡ Some sent → r0.supply.rest ≡ Some received
    → Tells manner clock sent received c result

-- behind a step
abbrev pub Steps : Manner → Clock → Stream → Stream → Stream → Stream → Coming → Coming → Sifting
    → Result (Unit {0}) CompareFault → Type 0
Steps manner clock s0 r0 s r sending receiving c (Ok x) = Amidst manner clock s0 r0 s r sending receiving c
Steps manner clock s0 r0 s r sending receiving c (Err fault) = Stopped manner clock s0 r0 c (Err fault)

-- ---- who looks on

-- amidst, and what whoever looks on was told
abbrev pub IsShown : {W : Type 0} → (W → Fact → W → Type 0) → W → W → Manner → Clock → Stream → Stream → Stream → Stream → Coming
    → Coming → Counted → Aside → Type 0
IsShown sees start now manner clock s0 r0 s r sending receiving c aside =
    Shows sees start now (λ log. Amidst manner clock s0 r0 s r sending receiving (sifting c log aside))

-- the same behind a step
abbrev pub StepIsShown : {W : Type 0} → (W → Fact → W → Type 0) → W → W → Manner → Clock → Stream → Stream → Stream → Stream
    → Coming → Coming → Counted → Aside → Result (Unit {0}) CompareFault → Type 0
StepIsShown sees start now manner clock s0 r0 s r sending receiving c aside result =
    Shows sees start now (λ log. Steps manner clock s0 r0 s r sending receiving (sifting c log aside) result)

-- ---- counts fit

-- the capture of what was sent lends a record, each count has room for one more, and the moment isn't before the delay
pub record MaySend (s : Stream) (sending : Coming) (c : Counted) (left : Aside) (moment : ℕ) : Type 0 where
  pub lends : IsSome (lent s.standing)
  pub fetched : sending.fetched + 1 < 2 ^ 64
  pub sent : c.sent + 1 < 2 ^ 64
  pub aside : left.sent + 1 < 2 ^ 64
  pub delay : sending.delay ≤ moment

-- the capture of what was received lends a record, and each count has room for one more
pub record MayReceive (r : Stream) (receiving : Coming) (c : Counted) (left : Aside) : Type 0 where
  pub lends : IsSome (lent r.standing)
  pub fetched : receiving.fetched + 1 < 2 ^ 64
  pub received : c.received + 1 < 2 ^ 64
  pub both : c.both + 1 < 2 ^ 64
  pub aside : left.received + 1 < 2 ^ 64

-- ---- how much may come

-- how much a capture may still give
abbrev pub weight : Option ℕ → Stream → ℕ
weight None s = 0
weight (Some moment) s = 1 + most_left s
