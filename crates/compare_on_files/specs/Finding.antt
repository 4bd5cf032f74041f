-- How the events of records are found in a text that is read forward. It serves the contracts.
use Rattle.std.specs.Prelude.{◌≡◌, ◌<◌, ◌≤◌, ℕ, ◌+◌, ◌-◌, nat_le, if◌then◌else◌, List, [], ◌∷◌, drop, Option, Some}
use Rattle.std.specs.Prelude.{Result, Ok, Err}
use Rattle.pcap.specs.Counts.{GoesOnBy}
use Rattle.timeline.specs.declared.source.Tap.{Tap}
use Rattle.line_stream.specs.Lines.{IsLong}
use Rattle.line_stream.specs.declared.fault.LinesFault.{LinesFault}
use Rattle.line_stream.specs.declared.fault.LinesFault.TheVariants as lines_faults
use Rattle.part_lines.specs.Facts.{facts_of}
use Rattle.part_lines.specs.declared.fault.LineFault.{LineFault}
use Rattle.part_lines.specs.declared.facts.LineFacts.{LineFacts}
use Rattle.part_lines.specs.declared.facts.LineFacts.TheVariants as facts
use Rattle.compare_on_files.specs.Events.{count_at, event_at, event_in, lines, told}
use Rattle.compare_on_files.specs.declared.events.fault.EventFault.{EventFault}
use Rattle.compare_on_files.specs.declared.events.fault.EventFault.TheVariants as faults
use Rattle.compare_on_files.specs.declared.events.telling.Step.{Step}

-- a place, how many of its records stand before those of an event, the number of that event and how many it has, what wasn't
-- read yet where the input tells its octets, and how often the input failed
pub record Standing : Type 0 where
  pub tap : Tap
  pub passed : ℕ
  pub number : ℕ
  pub count : ℕ
  pub rest : Option (List ℕ)
  pub failures : ℕ

-- why no line comes
abbrev pub fault_of : LinesFault → EventFault
fault_of lines_faults.Read = faults.Read
fault_of lines_faults.TooLong = faults.LongLine

-- by what a line tells, behind the event of this number
abbrev pub step_of : Tap → ℕ → Result LineFacts LineFault → Result Step EventFault
step_of tap last (Ok (facts.Event number taps)) =
    if nat_le number last then Err (faults.Falls number) else Ok (record { number = number; count = count_at tap taps })
step_of tap last (Ok facts.Cut) = Err faults.Few
step_of tap last (Err fault) = Err (faults.Line fault)

-- the next event and how many records it has at a place, by its line; behind the last line there is none
abbrev pub step_by : Tap → ℕ → List ℕ → Result Step EventFault
step_by tap last [] = Err faults.Few
step_by tap last (c ∷ cs) = step_of tap last (facts_of (c ∷ cs))

-- it stands somewhere in a text: the records of its event are those behind the ones that passed, and the others are those that
-- the rest tells
pub record StandsIn (text : List ℕ) (e : Standing) : Type 0 where
  pub from : ℕ
  pub rest : e.rest ≡ Some (drop from text)
  pub here : (i : ℕ) → i < e.count → event_in e.tap (e.passed + i) text ≡ Ok e.number
  pub behind : (i : ℕ) → event_in e.tap (e.passed + e.count + i) text ≡ event_at e.tap i (told e.number (lines (drop from text)))

-- somewhere in a text the next octets, as many as a line may have, have no line feed
pub record HasLong (text : List ℕ) : Type 0 where
  pub from : ℕ
  pub is : IsLong (drop from text)

-- what a text says of all records behind those of the event where it stands
abbrev pub IsPassed : List ℕ → Standing → Standing → Result (Unit {0}) EventFault → Type 0
IsPassed text old new (Ok x) = StandsIn text new
IsPassed text old new (Err faults.Read) = Unit {0}
IsPassed text old new (Err faults.LongLine) = HasLong text
IsPassed text old new (Err faults.Passed) = ⊥
IsPassed text old new (Err faults.Few) = (i : ℕ) → event_in old.tap (old.passed + old.count + i) text ≡ Err faults.Few
IsPassed text old new (Err (faults.Falls number)) =
    (i : ℕ) → event_in old.tap (old.passed + old.count + i) text ≡ Err (faults.Falls number)
IsPassed text old new (Err (faults.Line fault)) =
    (i : ℕ) → event_in old.tap (old.passed + old.count + i) text ≡ Err (faults.Line fault)

-- what a text says of the record of this number, from 1
abbrev pub IsFound : List ℕ → Standing → ℕ → Result ℕ EventFault → Type 0
IsFound text e record_number (Ok number) = event_in e.tap (record_number - 1) text ≡ Ok number
IsFound text e record_number (Err faults.Read) = Unit {0}
IsFound text e record_number (Err faults.LongLine) = HasLong text
IsFound text e record_number (Err faults.Passed) = record_number ≤ e.passed
IsFound text e record_number (Err faults.Few) = event_in e.tap (record_number - 1) text ≡ Err faults.Few
IsFound text e record_number (Err (faults.Falls number)) = event_in e.tap (record_number - 1) text ≡ Err (faults.Falls number)
IsFound text e record_number (Err (faults.Line fault)) = event_in e.tap (record_number - 1) text ≡ Err (faults.Line fault)

module _ {T : Type 0} where
  -- how often an input failed: once more where a read failed, else as before
  abbrev pub ReadsBy : ℕ → ℕ → Result T EventFault → Type 0
  ReadsBy old new (Ok x) = new ≡ old
  ReadsBy old new (Err faults.Read) = GoesOnBy 1 old new
  ReadsBy old new (Err faults.LongLine) = new ≡ old
  ReadsBy old new (Err faults.Passed) = new ≡ old
  ReadsBy old new (Err faults.Few) = new ≡ old
  ReadsBy old new (Err (faults.Falls number)) = new ≡ old
  ReadsBy old new (Err (faults.Line fault)) = new ≡ old
