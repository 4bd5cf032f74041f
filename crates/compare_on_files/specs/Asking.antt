-- What is asked of a run, and what is told where captures aren't compared to their ends. It states no standard.
--     IsEventOf    the event of a record of a run
--     IsFailure    what is told of a fault, by the place where both were captured, and their names
use Rattle.std.specs.Prelude.{◌≡◌, ℕ, List, Option, None, Some, Ok}
use Rattle.clap.specs.Words.{Text}
use Rattle.timeline.specs.declared.source.Tap.{Tap}
use Rattle.program_files.specs.declared.faults.decisions_fault.DecisionsFault.{DecisionsFault}
use Rattle.program_files.specs.declared.faults.decisions_fault.DecisionsFault.TheVariants as told
use Rattle.program_files.specs.declared.faults.failure.Failure.{Failure}
use Rattle.program_files.specs.declared.faults.failure.Failure.TheVariants as failures
use Rattle.capture_compare.specs.declared.fault.CompareFault.{CompareFault}
use Rattle.capture_compare.specs.declared.fault.CompareFault.TheVariants as compared
use Rattle.capture_compare.specs.declared.fault.Side.{Side}
use Rattle.capture_compare.specs.declared.fault.Side.TheVariants as sides
use Rattle.compare_on_files.specs.Finding.{IsFound, StandsIn}
use Rattle.compare_on_files.specs.declared.events.fault.EventFault.{EventFault}
use Rattle.compare_on_files.specs.declared.events.fault.EventFault.TheVariants as faults
use Rattle.compare_on_files.specs.declared.lent.Names.{Names}
use Rattle.compare_on_files.specs.declared.standard_output.WorkedEvents.{WorkedEvents}

-- what is told of a fault of decision lines; nothing of a read that failed
abbrev pub decisions_fault : EventFault → Option DecisionsFault
decisions_fault faults.Read = None
decisions_fault faults.LongLine = Some told.LongLine
decisions_fault (faults.Line fault) = Some (told.Line fault)
decisions_fault (faults.Falls number) = Some (told.Falls number)
decisions_fault faults.Few = Some told.Few
decisions_fault faults.Passed = Some told.Few

module _ {F : Type 0} where
  -- the event of a record by the decision lines, where they are known; a record of no run has none
  abbrev pub IsEventOf : Option (WorkedEvents F) → ℕ → Option ℕ → Option (WorkedEvents F) → Type 0
  IsEventOf (Some old) number (Some event) (Some new) =
      (text : List ℕ) → StandsIn text old.events → IsFound text old.events number (Ok event) × StandsIn text new.events
  IsEventOf None number None new = new ≡ None
  IsEventOf None number (Some event) new = ⊥
  IsEventOf (Some old) number None new = ⊥
  IsEventOf (Some old) number (Some event) None = ⊥

-- a capture of this name couldn't be read: it is a pcapng one that is refused, or a read failed
abbrev pub IsUnread : Option Tap → Side → Text → Failure → Type 0
IsUnread None side name (failures.ComparedPcapng of fault) = of ≡ side
IsUnread (Some tap) side name (failures.ComparedPcapngAt at of fault) = (at ≡ tap) × (of ≡ side)
IsUnread at side name (failures.Read of) = of.now ≡ name
IsUnread at side name _ = ⊥

-- a fault of two captures, told with their place
abbrev pub told_at : Option Tap → CompareFault → Failure
told_at None fault = failures.Compared fault
told_at (Some tap) fault = failures.ComparedAt tap fault

abbrev pub IsFailure : Option Tap → Names → CompareFault → Failure → Type 0
IsFailure at n (compared.Read sides.Sent) failure = IsUnread at sides.Sent n.sent.now failure
IsFailure at n (compared.Read sides.Received) failure = IsUnread at sides.Received n.received.now failure
IsFailure at n (compared.Header side fault) failure = failure ≡ told_at at (compared.Header side fault)
IsFailure at n (compared.Record side number fault) failure = failure ≡ told_at at (compared.Record side number fault)
IsFailure at n (compared.Full moment) failure = failure ≡ told_at at (compared.Full moment)
