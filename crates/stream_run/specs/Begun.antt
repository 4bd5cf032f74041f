-- How the sources of a run stand at its begin; it serves the contracts of the run and of its parts.
--     IsOpening, OpensAt      one of them is opened
--     OpensInTurn      all are, up to the first that can't be
use Rattle.std.specs.Prelude.{◌≡◌, ◌<◌, ⊤, ℕ, ◌+◌, List, [], ◌∷◌, length, replicate, None, Some, Result, Ok, Err, OnOk}
use Rattle.pcap.specs.Capture.{opened}
use Rattle.pcap.specs.declared.text.header.CaptureFault.{CaptureFault}
use Rattle.pcap.specs.InTurn.{IsReading}
use Rattle.pcap.specs.Source.{New, Stream}
use Rattle.overlay.specs.declared.settings.change.TimedChange.{TimedChange}
use Rattle.timeline.specs.declared.source.Tap.{Tap}
use Rattle.capture_run.specs.declared.fault.RunFault.TheVariants as faults
use Rattle.stream_run.specs.Fetched.{IsOpen, ReadsOne}
use Rattle.stream_run.specs.Steps.{IsAt, IsChangedAt, moment_at, octets_at, source_at}
use Rattle.stream_run.specs.declared.fault.StreamFault.{StreamFault}
use Rattle.stream_run.specs.declared.fault.StreamFault.TheVariants as stream
use Rattle.stream_run.specs.declared.turn.Turn.{Turn}

-- ---- one source

-- a source of which nothing was read
abbrev pub IsUnread : Stream → Type 0
IsUnread s = s.standing ≡ New

-- where its input told its octets, they are read on from the first record
abbrev pub ReadsOn : Stream → Stream → Type 0
ReadsOn old new = (octets : List ℕ) → old.supply.rest ≡ Some octets → IsReading octets [] new

-- where its input told its octets, their header is refused, and this is why
abbrev pub RefusesHeader : Stream → CaptureFault → Type 0
RefusesHeader old fault = (octets : List ℕ) → old.supply.rest ≡ Some octets → opened octets ≡ Err fault

-- the header of a capture was read, and it is one; or its fault is told; or a read failed
abbrev pub TellsHeader : Tap → Stream → Stream → Result (Unit {0}) StreamFault → Type 0
TellsHeader tap old new (Ok x) = ReadsOn old new
TellsHeader tap old new (Err (stream.Run (faults.Capture place fault))) = (place ≡ tap) × RefusesHeader old fault
TellsHeader tap old new (Err (stream.Run fault)) = ⊥
TellsHeader tap old new (Err (stream.Read place)) = place ≡ tap
TellsHeader tap old new (Err (stream.Write target)) = ⊥

-- a source was opened, that of the capture at this place
pub record IsOpening (place : Tap) (old new : Stream) (result : Result (Unit {0}) StreamFault) : Type 0 where
  pub open_ : OnOk result (IsOpen new.standing)
  pub reads : ReadsOne place old new result
  pub header : TellsHeader place old new result

-- the source with this index was, and all else is as before
pub record OpensAt (index : ℕ) (ports : List Stream) (underlay : Stream) (new : List Stream) (new_underlay : Stream)
    (result : Result (Unit {0}) StreamFault) : Type 0 where
  pub place : Tap
  pub source : Stream
  pub at : IsAt (length ports) index place
  pub changed : IsChangedAt place ports underlay new new_underlay source
  pub opening : IsOpening place (source_at ports underlay place) source result

-- ---- all sources

-- a source was opened
pub record IsBegun (old new : Stream) : Type 0 where
  pub open_ : IsOpen new.standing
  pub reads : ReadsOn old new

-- those in front of this index were
abbrev pub AreBegun : ℕ → List Stream → Stream → List Stream → Stream → Type 0
AreBegun index ports underlay new new_underlay = (place : Tap) (i : ℕ) → i < index → IsAt (length ports) i place
    → IsBegun (source_at ports underlay place) (source_at new new_underlay place)

-- all were; or those in front of one that can't be, or of which a read failed
abbrev pub OpensInTurn : List Stream → Stream → List Stream → Stream → Result (Unit {0}) StreamFault → Type 0
OpensInTurn ports underlay new new_underlay (Ok x) = AreBegun (length ports + 2) ports underlay new new_underlay
OpensInTurn ports underlay new new_underlay (Err (stream.Run (faults.Capture place fault))) =
    (index : ℕ) × IsAt (length ports) index place × AreBegun index ports underlay new new_underlay
    × RefusesHeader (source_at ports underlay place) fault
OpensInTurn ports underlay new new_underlay (Err (stream.Run fault)) = ⊥
OpensInTurn ports underlay new new_underlay (Err (stream.Read place)) =
    (index : ℕ) × IsAt (length ports) index place × AreBegun index ports underlay new new_underlay
OpensInTurn ports underlay new new_underlay (Err (stream.Write target)) = ⊥

-- all captures are at their first records, and they hold these octets
pub record AreAtFirst (texts : List (List ℕ)) (text : List ℕ) (ports : List Stream) (underlay : Stream) : Type 0 where
  pub many : length texts ≡ length ports
  pub each : (place : Tap) (index : ℕ) → IsAt (length ports) index place
      → IsReading (octets_at texts text place) [] (source_at ports underlay place)

-- ---- the fetches

-- an answer of a call that only reads: it writes nothing, and asks for no memory
abbrev pub OnlyReads : Result (Unit {0}) StreamFault → Type 0
OnlyReads (Err (stream.Write target)) = ⊥
OnlyReads (Err (stream.Run faults.OutOfMemory)) = ⊥
OnlyReads result = ⊤

-- ---- the turns

-- what stands for a turn that isn't there, and for that of a capture of which nothing was fetched
abbrev pub no_turn : Turn
no_turn = record { done = 0; next = None }

-- the turn of the changes, and those of so many captures of which nothing was fetched
abbrev pub first_turns : List TimedChange → ℕ → List Turn
first_turns changes captures = record { done = 0; next = moment_at changes 0 } ∷ replicate captures no_turn
