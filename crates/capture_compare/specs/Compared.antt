-- What two captures are, compared. It states no standard.
--     records_in     the records of a capture, up to its fault where it has one
--     fault_in       that fault
--     is_cut_in      whether a capture ends within a record
--     has_room_for   whether a window has room for one more record that was sent
--     Tells          what is told of two captures, by the answer
use Rattle.std.specs.Prelude.{◌≡◌, ◌≢◌, ⊤, ℕ, ◌+◌, Bool, true, false, List, [], ◌∷◌, ◌++◌, length, map, Option, Some, None, Result, Ok, Err}
use Rattle.pcap.specs.Capture.{opened}
use Rattle.pcap.specs.Next.{End, Whole, Cut, Faulty}
use Rattle.pcap.specs.Reading.{Reading}
use Rattle.pcap.specs.Record.{Record}
use Rattle.pcap.specs.declared.text.header.CaptureFault.{CaptureFault}
use Rattle.record_match.specs.Compared.{cut_in, octets_in}
use Rattle.record_match.specs.Match.{Record as Matched, as_sent, matched, received_count}
use Rattle.record_match.specs.Settled.{alone_from, held_alone, of_received, of_sent, told_from}
use Rattle.record_match.specs.Window.{Window, has_room, still_held}
use Rattle.record_match.specs.declared.clock.Clock.{Clock}
use Rattle.capture_compare.specs.Clocked.{Seen, before, kept, on_clock, received_by, sent_by}
use Rattle.capture_compare.specs.Key.{Key}
use Rattle.capture_compare.specs.Sifted.{Sifting}
use Rattle.capture_compare.specs.declared.fault.CompareFault.{CompareFault}
use Rattle.capture_compare.specs.declared.fault.CompareFault.TheVariants as faults
use Rattle.capture_compare.specs.declared.fault.Side.{Side}
use Rattle.capture_compare.specs.declared.fault.Side.TheVariants as sides
use Rattle.capture_compare.specs.declared.carried.key.Manner.{Manner}

-- ---- a capture

-- the records, by what is opened
abbrev pub records_of : Result Reading CaptureFault → List Record
records_of (Ok reading) = reading.records
records_of (Err fault) = []

-- the records of a capture, up to its fault where it has one
abbrev pub records_in : List ℕ → List Record
records_in text = records_of (opened text)

-- the fault behind so many records, by their end
abbrev pub fault_behind : Side → ℕ → End → Option CompareFault
fault_behind side count Whole = None
fault_behind side count Cut = None
fault_behind side count (Faulty fault) = Some (faults.Record side (count + 1) fault)

-- the fault, by what is opened
abbrev pub fault_of : Side → Result Reading CaptureFault → Option CompareFault
fault_of side (Ok reading) = fault_behind side (length reading.records) reading.end
fault_of side (Err fault) = Some (faults.Header side fault)

-- the fault of a capture
abbrev pub fault_in : Side → List ℕ → Option CompareFault
fault_in side text = fault_of side (opened text)

-- whether they end within a record: a rest stands behind them that is no whole one
abbrev pub is_cut : End → Bool
is_cut Whole = false
is_cut Cut = true
is_cut (Faulty fault) = false

abbrev pub is_cut_by : Result Reading CaptureFault → Bool
is_cut_by (Ok reading) = is_cut reading.end
is_cut_by (Err fault) = false

-- a capture ends within a record: that is no fault
abbrev pub is_cut_in : List ℕ → Bool
is_cut_in text = is_cut_by (opened text)

-- ---- what is counted

-- of the records that aren't left aside so many were sent, were received, and are both, and so many of each are cut; all others
-- were counted as left aside.
-- Whoever looks on was told of each that was received what it is, and of those that were sent which weren't received; of those
-- that are held still it is told at the end. Their numbers are those among the records that aren't left aside
pub record AreCounts (within : ℕ) (sent received : List Seen) (c : Sifting) : Type 0 where
  pub sent_is : c.sent ≡ length (kept sent)
  pub received_is : c.received ≡ length (kept received)
  pub cut_is : (c.cut.sent ≡ cut_in (kept sent)) × (c.cut.received ≡ cut_in (kept received))
  pub sent_aside_is : c.sent + c.aside.sent ≡ length sent
  pub received_aside_is : c.received + c.aside.received ≡ length received
  pub both_is : c.both ≡ received_count (matched within (kept sent) (kept received))
  pub told_is : of_received c.log ≡ told_from within 1 (map as_sent (kept sent)) (kept received)
  pub alone_is : of_sent c.log ++ held_alone c.window.records c.window.held
      ≡ alone_from 1 (matched within (kept sent) (kept received))

-- ---- the window

-- what a window holds at a moment, where these were sent and these received before: those that were sent, without those in
-- front that were received or may not be any more
abbrev pub window_at : ℕ → ℕ → List Matched → List Matched → Window
window_at within moment sent received = record {
  within = within;
  records = length sent;
  octets = octets_in sent;
  held = still_held within moment (matched within sent received);
}

-- a window has room for a record of this key: one that is left aside takes none
abbrev pub takes : Window → Option Key → Bool
takes w None = true
takes w (Some key) = has_room w (length key.octets)

-- there is room for one more record that was sent
abbrev pub has_room_for : ℕ → List Seen → List Seen → Seen → Bool
has_room_for within sent received x = takes (window_at within x.moment (kept sent) (kept received)) x.key

-- there was room for each of some that were sent, behind others, where these are received
abbrev pub AllHadRoom : ℕ → List Seen → List Seen → List Seen → Type 0
AllHadRoom within received done [] = ⊤
AllHadRoom within received done (x ∷ xs) =
    (has_room_for within done (before x.moment received) x ≡ true) × AllHadRoom within received (done ++ x ∷ []) xs

-- ---- what is told

-- both captures to their ends
pub record AreWhole (manner : Manner) (clock : Clock) (sent received : List ℕ) (c : Sifting) : Type 0 where
  pub no_sent_fault : fault_in sides.Sent sent ≡ None
  pub no_received_fault : fault_in sides.Received received ≡ None
  pub counts : AreCounts clock.within (on_clock manner clock.sent_delay (records_in sent))
      (on_clock manner clock.received_delay (records_in received)) c
  pub room : AllHadRoom clock.within (on_clock manner clock.received_delay (records_in received)) []
      (on_clock manner clock.sent_delay (records_in sent))

-- what was sent, up to its fault, and what was received before its last record; the other capture had none before
pub record IsSentFault (clock : Clock) (sent received : List ℕ) (c : Sifting) (S R : List Seen) (fault : CompareFault) : Type 0 where
  pub fault_is : fault_in sides.Sent sent ≡ Some fault
  pub counts : AreCounts clock.within S (received_by S R) c
  pub room : AllHadRoom clock.within R [] S
  pub first : S ≢ [] → received_by S R ≡ R → fault_in sides.Received received ≡ None

-- what was received, up to its fault, and what was sent before its last record; the other capture had none before
pub record IsReceivedFault (clock : Clock) (sent received : List ℕ) (c : Sifting) (S R : List Seen) (fault : CompareFault) : Type 0 where
  pub fault_is : fault_in sides.Received received ≡ Some fault
  pub counts : AreCounts clock.within (sent_by R S) R c
  pub room : AllHadRoom clock.within R [] (sent_by R S)
  pub first : sent_by R S ≡ S → fault_in sides.Sent sent ≡ None

-- the first record that was sent for which a window has no room
pub record IsFull (clock : Clock) (received : List ℕ) (c : Sifting) (S R : List Seen) (moment : ℕ) : Type 0 where
  pub front : List Seen
  pub here : Seen
  pub behind : List Seen
  pub parts : S ≡ front ++ here ∷ behind
  pub moment_is : moment + clock.sent_delay ≡ here.moment
  pub counts : AreCounts clock.within front (before here.moment R) c
  pub room : AllHadRoom clock.within R [] front
  pub full : has_room_for clock.within front (before here.moment R) here ≡ false
  pub first : before here.moment R ≡ R → fault_in sides.Received received ≡ None

-- what was sent wasn't read on behind some records
pub record IsSentInFront (clock : Clock) (c : Sifting) (S R : List Seen) : Type 0 where
  pub front : List Seen
  pub behind : List Seen
  pub parts : S ≡ front ++ behind
  pub counts : AreCounts clock.within front (received_by front R) c
  pub room : AllHadRoom clock.within R [] front

-- what was received wasn't read on behind some records
pub record IsReceivedInFront (clock : Clock) (c : Sifting) (S R : List Seen) : Type 0 where
  pub front : List Seen
  pub behind : List Seen
  pub parts : R ≡ front ++ behind
  pub counts : AreCounts clock.within (sent_by front S) front c
  pub room : AllHadRoom clock.within R [] (sent_by front S)

-- by the fault, over the records on one clock
abbrev pub Stops : Clock → List ℕ → List ℕ → Sifting → List Seen → List Seen → CompareFault → Type 0
Stops clock sent received c S R (faults.Read sides.Sent) = IsSentInFront clock c S R
Stops clock sent received c S R (faults.Read sides.Received) = IsReceivedInFront clock c S R
Stops clock sent received c S R (faults.Header sides.Sent fault) = IsSentFault clock sent received c S R (faults.Header sides.Sent fault)
Stops clock sent received c S R (faults.Header sides.Received fault) =
    IsReceivedFault clock sent received c S R (faults.Header sides.Received fault)
Stops clock sent received c S R (faults.Record sides.Sent n fault) =
    IsSentFault clock sent received c S R (faults.Record sides.Sent n fault)
Stops clock sent received c S R (faults.Record sides.Received n fault) =
    IsReceivedFault clock sent received c S R (faults.Record sides.Received n fault)
Stops clock sent received c S R (faults.Full moment) = IsFull clock received c S R moment

-- what is told of two captures, by the manner of comparing and the answer
abbrev pub Tells : Manner → Clock → List ℕ → List ℕ → Sifting → Result (Unit {0}) CompareFault → Type 0
Tells manner clock sent received c (Ok x) = AreWhole manner clock sent received c
Tells manner clock sent received c (Err fault) =
    Stops clock sent received c (on_clock manner clock.sent_delay (records_in sent))
    (on_clock manner clock.received_delay (records_in received)) fault
