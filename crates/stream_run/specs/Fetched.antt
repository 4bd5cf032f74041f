-- One fetch of a source. It states no standard.
use Rattle.std.specs.Prelude.{◌≡◌, ◌≤◌, ⊤, ℕ, ◌+◌, max, List, length, Option, Some, None, option_map, IfOk, Result, Ok, Err}
use Rattle.pcap.specs.Record.{Record, last_moment}
use Rattle.pcap.specs.InTurn.{IsReading}
use Rattle.pcap.specs.Source.{Standing, Stream, Open, lent}
use Rattle.pcap.specs.Supply.{GivesUp}
use Rattle.pcap.specs.declared.stream.fault.SourceFault.{SourceFault}
use Rattle.timeline.specs.Events.{greatest}
use Rattle.timeline.specs.declared.source.Tap.{Tap}
use Rattle.capture_run.specs.declared.fault.RunFault.TheVariants as faults
use Rattle.stream_run.specs.Fault.{fault_of}
use Rattle.stream_run.specs.Read.{IsFaulty, StandsBehind, failures_of}
use Rattle.stream_run.specs.declared.fault.StreamFault.{StreamFault}
use Rattle.stream_run.specs.declared.fault.StreamFault.TheVariants as stream
use Rattle.stream_run.specs.declared.turn.Turn.{Turn}

-- the next record is lent, or the capture ended without a fault; or its fault is told, or a read failed
abbrev pub IsFetched : List ℕ → List Record → Tap → Stream → Result Turn StreamFault → Type 0
IsFetched octets rs tap new (Ok t) = StandsBehind octets rs t.next new
IsFetched octets rs tap new (Err (stream.Run (faults.Record place n fault))) = (place ≡ tap) × IsFaulty octets n fault × (n ≡ length rs + 1)
IsFetched octets rs tap new (Err (stream.Run fault)) = ⊥
IsFetched octets rs tap new (Err (stream.Read place)) = place ≡ tap
IsFetched octets rs tap new (Err (stream.Write target)) = ⊥

-- of a capture of which so many records came, where it stands now, or its fault as one of the run
abbrev pub fetched : Tap → ℕ → Option ℕ → Result (Unit {0}) SourceFault → Result Turn StreamFault
fetched tap done next (Ok x) = Ok (record { done = done; next = next })
fetched tap done next (Err fault) = Err (fault_of tap (done + 1) fault)

-- a source that can be asked for another record
abbrev pub IsOpen : Standing → Type 0
IsOpen (Open style last) = ⊤
IsOpen other = ⊥

-- a moment that a record can tell
abbrev pub IsMoment : Option ℕ → Type 0
IsMoment None = ⊤
IsMoment (Some m) = m ≤ last_moment

module _ {T : Type 0} where
  -- no read failed, or the source gave up
  abbrev pub ReadsOne : Tap → Stream → Stream → Result T StreamFault → Type 0
  ReadsOne tap old new (Err (stream.Read place)) = (place ≡ tap) × GivesUp old.supply new.supply
  ReadsOne tap old new (Err (stream.Write target)) = ⊥
  ReadsOne tap old new (Err (stream.Run fault)) = failures_of new ≡ failures_of old
  ReadsOne tap old new (Ok x) = failures_of new ≡ failures_of old

-- all of it: of a capture of which so many records came, the latest at this moment
pub record IsFetch (old new : Stream) (tap : Tap) (done latest : ℕ) (result : Result Turn StreamFault) : Type 0 where
  pub count : IfOk result (λ t. t.done ≡ done)
  pub next : IfOk result (λ t. t.next ≡ option_map (λ (r : Record). max r.moment latest) (lent new.standing))
  pub moment : latest ≤ last_moment → IfOk result (λ t. IsMoment t.next)
  pub reads : ReadsOne tap old new result
  pub told : (octets : List ℕ) (rs : List Record) → IsReading octets rs old → done ≡ length rs → latest ≡ greatest rs
      → IsFetched octets rs tap new result
