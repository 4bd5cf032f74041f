-- What a report makes of each fact that it is told. It states no standard.
--     IsListed     the line of a record that is of one capture alone was printed
--     IsTold       such a record was told
--     IsReported   a report, once a fact was told
use Rattle.std.specs.Prelude.{◌≡◌, ℕ, ◌-◌, is_some, Bool, true, false, List, length, Option, None, Some, IfNone, option_map}
use Rattle.record_match.specs.Match.{Record}
use Rattle.record_match.specs.Settled.{Fact, Both, ReceivedAlone, SentAlone}
use Rattle.record_match.specs.declared.clock.Clock.{Clock}
use Rattle.capture_compare.specs.Differing.{Differing, difference_of, nothing_yet, with_received, with_sent}
use Rattle.capture_compare.specs.Lonely.{lonely_line}
use Rattle.capture_compare.specs.Segment.{segment_by}
use Rattle.capture_compare.specs.declared.carried.key.Sameness.{Sameness}
use Rattle.capture_compare.specs.declared.carried.key.Sameness.TheVariants.{Carried, Whole}
use Rattle.capture_compare.specs.declared.fault.Side.{Side}
use Rattle.capture_compare.specs.declared.fault.Side.TheVariants as sides
use Rattle.capture_compare.specs.declared.lines.lonely.Lonely.{Lonely}
use Rattle.capture_compare.specs.declared.lonely.difference.Difference.{Difference}
use Rattle.capture_compare.specs.declared.lonely.segment.Reading.{Reading}
use Rattle.capture_compare.specs.declared.lonely.segment.Reading.TheVariants as readings
use Rattle.capture_compare.specs.declared.lonely.segment.RecordSegment.{RecordSegment}
use Rattle.compare_reports.specs.Doubled.{recent_with}
use Rattle.compare_reports.specs.Printed.{order_with}
use Rattle.compare_reports.specs.Told.{segments_with, table_with}
use Rattle.compare_reports.specs.declared.asked.Asked.{Asked}
use Rattle.compare_reports.specs.declared.report.Report.{Report}

-- how keys are read
abbrev pub reading_of : Sameness → Reading
reading_of Whole = readings.Frame
reading_of (Carried tunnels) = readings.Packet

-- by how much the moments of a capture were put later
abbrev pub delay_of : Clock → Side → ℕ
delay_of clock sides.Sent = clock.sent_delay
delay_of clock sides.Received = clock.received_delay

-- a record that is of one capture alone, as that tells it
abbrev pub lonely_of : Asked → Side → ℕ → Record → Lonely
lonely_of a side number r = record {
  at = a.at;
  side = side;
  number = number;
  moment = r.moment - delay_of a.clock side;
  length = length r.octets;
}

-- what of near ones differs is looked for at a place
abbrev pub differences_asked : Asked → Reading → Option Differing
differences_asked a reading = elim a.at [ Some tap ↦ Some (nothing_yet reading a.clock.within) | None ↦ None ]

-- the segment of a record, at a place
abbrev pub segment_in : Option Differing → Record → Option RecordSegment
segment_in differences r = option_map (λ (d : Differing). segment_by d.reading r.octets) differences

-- what of a near one differs, of a record that was sent alone
abbrev pub difference_in : Side → Record → Option Differing → Option Difference
difference_in sides.Sent r (Some d) = difference_of r d
difference_in sides.Sent r None = None
difference_in sides.Received r differences = None

-- once a record was told to be of one capture alone
abbrev pub differences_with : Side → ℕ → Record → Option Differing → Option Differing
differences_with sides.Sent number r differences = option_map (with_sent number r) differences
differences_with sides.Received number r differences = option_map (with_received number r) differences

module _ {P : Type 0} (finds : P → ℕ → Option ℕ → P → Type 0) where
  -- whoever prints was asked for the event of a record that was sent, and not of one that was received
  abbrev pub IsOfEvent : Side → ℕ → P → P → Option ℕ → Type 0
  IsOfEvent sides.Received number old new event = (event ≡ None) × (new ≡ old)
  IsOfEvent sides.Sent number old new event = finds old number event new

module _ {P : Type 0} (prints : P → List ℕ → P → Type 0) (finds : P → ℕ → Option ℕ → P → Type 0) where
  -- the line of a record was printed, with its segment and what of a near one differs
  pub record IsListed (l : Lonely) (segment : Option RecordSegment) (difference : Option Difference) (old new : P) : Type 0 where
    pub event : Option ℕ
    pub asked : P
    pub of_event : IsOfEvent finds l.side l.number old asked event
    pub printed : prints asked
        (lonely_line (record { «record» = l; segment = segment; event = event; difference = difference })) new

module _ {P E : Type 0} (prints : P → List ℕ → P → Type 0) (finds : P → ℕ → Option ℕ → P → Type 0) where
  -- it was, where a list is asked for
  abbrev pub ListsBy : Bool → Side → ℕ → Record → Report P E → Report P E → Type 0
  ListsBy true side number r old new =
      IsListed prints finds (lonely_of old.asked side number r) (segment_in old.differences r)
      (difference_in side r old.differences) old.printer new.printer
  ListsBy false side number r old new = new.printer ≡ old.printer

  -- a record that is of one capture alone was told: it was held, or what is near it was found and counted; and its line was printed
  -- where a list is asked for
  pub record IsTold (lists : Bool) (side : Side) (number : ℕ) (r : Record) (old new : Report P E) : Type 0 where
    pub listed : ListsBy lists side number r old new
    pub differences_are : new.differences ≡ differences_with side number r old.differences

  -- nothing was
  abbrev pub IsQuiet : Report P E → Report P E → Type 0
  IsQuiet old new = (new.printer ≡ old.printer) × (new.differences ≡ old.differences)

  -- each is told up to the first that couldn't be: then it is known why
  abbrev pub TellsBy : Bool → Side → ℕ → Record → Report P E → Report P E → Type 0
  TellsBy true side number r old new = IsQuiet old new × (new.failure ≡ old.failure)
  TellsBy false side number r old new = IfNone new.failure (IsTold old.asked.lists side number r old new)

  abbrev pub Tells : Side → ℕ → Record → Report P E → Report P E → Type 0
  Tells side number r old new = TellsBy (is_some old.failure) side number r old new

  abbrev pub TellsFact : Fact → Report P E → Report P E → Type 0
  TellsFact (Both moment number r) old new = IsQuiet old new
  TellsFact (ReceivedAlone number r) old new = Tells sides.Received number r old new
  TellsFact (SentAlone number r) old new = Tells sides.Sent number r old new

  -- what became of a record was told to the list and to what finds near ones, to what knows which came again, to the order, to the
  -- table and to the segments
  pub record IsReported (fact : Fact) (old new : Report P E) : Type 0 where
    pub told : TellsFact fact old new
    pub failure_stays : IfNone new.failure (old.failure ≡ None)
    pub recent_is : IfNone new.failure (new.recent ≡ recent_with fact old.recent)
    pub order_is : new.order ≡ order_with fact old.order
    pub table_is : new.table ≡ table_with fact old.table
    pub segments_is : new.segments ≡ segments_with fact old.segments
    pub asked_is : new.asked ≡ old.asked
