-- What a merge blames on a device: an input of a part, or an output. It states no standard.
--     ReadsWith      no input failed, or one of the part that the answer blames
--     WritesWith      no output failed, or the one that the answer blames
use Rattle.std.specs.Prelude.{◌≡◌, ◌⊎◌, ◌<◌, ⊤, ℕ, Bool, false, true, List, length, map, slice_index_or, Result, Ok, Err}
use Rattle.line_stream.specs.Lines.{Reader}
use Rattle.pcap.specs.Counts.{GoesOnBy}
use Rattle.pcap.specs.Sink.{Drain}
use Rattle.pcap.specs.Source.{New, Open, Ended, Failed, Standing, Stream}
use Rattle.pcap.specs.Supply.{GivesUp}
use Rattle.pcap.specs.declared.stream.fault.SourceFault.{SourceFault}
use Rattle.pcap.specs.declared.stream.fault.SourceFault.TheVariants as source
use Rattle.timeline.specs.declared.source.Tap.{Tap}
use Rattle.part_merge.specs.Coming.{OpenPart}
use Rattle.part_merge.specs.Left.{IsTap, of_tap}
use Rattle.part_merge.specs.declared.capture.Stop.{Stop}
use Rattle.part_merge.specs.declared.capture.Stop.TheVariants as stops
use Rattle.part_merge.specs.declared.fault.MergeFault.{MergeFault}
use Rattle.part_merge.specs.declared.fault.MergeFault.TheVariants as faults
use Rattle.part_merge.specs.declared.fault.Target.{Target}
use Rattle.part_merge.specs.declared.fault.Target.TheVariants as targets

-- ---- the inputs of a part

-- it is that a read failed, or that one more was needed than may be made
abbrev pub is_read : SourceFault → Bool
is_read source.Read = true
is_read source.NotPcap = false
is_read source.BadLink = false
is_read source.TooLarge = false
is_read source.BadFraction = false

-- a source gave up at a read: it answers so from then on, and reads no more
abbrev pub has_given_up : Standing → Bool
has_given_up New = false
has_given_up (Open style last) = false
has_given_up (Ended is_cut) = false
has_given_up (Failed fault) = is_read fault

-- how often the input of a capture failed, and whether its source gave up
abbrev pub source_health : Stream → ℕ × Bool
source_health s = (s.supply.failures, has_given_up s.standing)

-- a source that hadn't given up did: its input failed once, or no reads are left
abbrev pub SourceStops : Stream → Stream → Type 0
SourceStops old new = has_given_up old.standing ≡ false → GivesUp old.supply new.supply

-- the same of captures: of the ports', rising, and of the underlay's
pub record Healths : Type 0 where
  pub ports : List (ℕ × Bool)
  pub underlay : ℕ × Bool

-- the same of the captures of a part
abbrev pub captures_health : List Stream → Stream → Healths
captures_health ports underlay = record { ports = map source_health ports; underlay = source_health underlay }

-- one of them did
abbrev pub CaptureStops : List Stream → Stream → List Stream → Stream → Type 0
CaptureStops old old_underlay new new_underlay =
    (tap : Tap) × IsTap (length old) tap × SourceStops (of_tap old old_underlay tap) (of_tap new new_underlay tap)

-- of lines how often they failed, and with them the same of captures
pub record Health : Type 0 where
  pub lines : ℕ
  pub captures : Healths

-- of all inputs of a part
abbrev pub part_health : OpenPart → Health
part_health s = record { lines = s.reader.failures; captures = captures_health s.ports s.underlay }

-- the input of its lines failed once, or one of its captures gave up
abbrev pub PartStops : OpenPart → OpenPart → Type 0
PartStops old new = GoesOnBy 1 old.reader.failures new.reader.failures ⊎ CaptureStops old.ports old.underlay new.ports new.underlay

-- those of the part of this number
abbrev pub PartStopsAt : ℕ → List OpenPart → List OpenPart → Type 0
PartStopsAt part old new = (part < length old) × ((s : OpenPart) → PartStops (slice_index_or old part s) (slice_index_or new part s))

-- ---- the outputs

-- how often an output failed, and whether its sink gave up
abbrev pub sink_health : Drain → ℕ × Bool
sink_health d = (d.failures, d.is_failed)

-- an output whose sink hadn't given up failed once, or took nothing
abbrev pub SinkStops : Drain → Drain → Type 0
SinkStops old new = old.is_failed ≡ false → GoesOnBy 1 old.failures new.failures

-- the same of the outputs of captures
abbrev pub sinks_health : List Drain → Drain → Healths
sinks_health ports underlay = record { ports = map sink_health ports; underlay = sink_health underlay }

-- of all outputs: that of the lines is no sink, so it gives up at no time
abbrev pub outputs_health : List Drain → Drain → ℕ → Health
outputs_health ports underlay failures = record { lines = failures; captures = sinks_health ports underlay }

-- this output did
abbrev pub OutputStops : Target → List Drain → Drain → ℕ → List Drain → Drain → ℕ → Type 0
OutputStops (targets.Capture tap) old old_underlay failures new new_underlay failures_now =
    IsTap (length old) tap × SinkStops (of_tap old old_underlay tap) (of_tap new new_underlay tap)
OutputStops targets.Decisions old old_underlay failures new new_underlay failures_now = GoesOnBy 1 failures failures_now

-- ---- an answer

module _ {T : Type 0} where
  -- one fact where the read of a part is blamed, and one for all other answers
  abbrev pub MatchRead : Result T MergeFault → (ℕ → Type 0) → Type 0 → Type 0
  MatchRead (Ok x) P Q = Q
  MatchRead (Err (faults.Read part)) P Q = P part
  MatchRead (Err (faults.Write target)) P Q = Q
  MatchRead (Err (faults.Missing number)) P Q = Q
  MatchRead (Err (faults.Part part fault)) P Q = Q

  -- one fact where a write is blamed, and one for all other answers
  abbrev pub MatchWrite : Result T MergeFault → (Target → Type 0) → Type 0 → Type 0
  MatchWrite (Ok x) P Q = Q
  MatchWrite (Err (faults.Read part)) P Q = Q
  MatchWrite (Err (faults.Write target)) P Q = P target
  MatchWrite (Err (faults.Missing number)) P Q = Q
  MatchWrite (Err (faults.Part part fault)) P Q = Q

  -- a copy: a source gave up where it says so, and at no other answer
  abbrev pub CopyReads : Stream → Stream → Result T Stop → Type 0
  CopyReads old new (Ok x) = source_health new ≡ source_health old
  CopyReads old new (Err stops.Read) = SourceStops old new
  CopyReads old new (Err stops.Write) = source_health new ≡ source_health old
  CopyReads old new (Err (stops.Wrong fault)) = source_health new ≡ source_health old

  -- and an output failed where it says so
  abbrev pub CopyWrites : Drain → Drain → Result T Stop → Type 0
  CopyWrites old new (Ok x) = sink_health new ≡ sink_health old
  CopyWrites old new (Err stops.Read) = sink_health new ≡ sink_health old
  CopyWrites old new (Err stops.Write) = SinkStops old new
  CopyWrites old new (Err (stops.Wrong fault)) = sink_health new ≡ sink_health old

  -- the same as an answer of the merge, of a capture of the part of this number
  abbrev pub SourceReads : ℕ → Stream → Stream → Result T MergeFault → Type 0
  SourceReads part old new result = MatchRead result (λ blamed. (blamed ≡ part) × SourceStops old new)
      (source_health new ≡ source_health old)

  -- and of an output
  abbrev pub SinkWrites : Tap → Drain → Drain → Result T MergeFault → Type 0
  SinkWrites tap old new result = MatchWrite result (λ blamed. (blamed ≡ targets.Capture tap) × SinkStops old new)
      (sink_health new ≡ sink_health old)

  -- the captures of the part of this number: one of them gave up where that is blamed, and none did at any other answer
  abbrev pub CapturesRead : ℕ → List Stream → Stream → List Stream → Stream → Result T MergeFault → Type 0
  CapturesRead part old old_underlay new new_underlay result =
      MatchRead result (λ blamed. (blamed ≡ part) × CaptureStops old old_underlay new new_underlay)
      (captures_health new new_underlay ≡ captures_health old old_underlay)

  -- the lines of the part of this number
  abbrev pub LinesRead : ℕ → Reader → Reader → Result T MergeFault → Type 0
  LinesRead part old new result = MatchRead result (λ blamed. (blamed ≡ part) × GoesOnBy 1 old.failures new.failures)
      (new.failures ≡ old.failures)

  -- all inputs of the part of this number
  abbrev pub PartReads : ℕ → OpenPart → OpenPart → Result T MergeFault → Type 0
  PartReads part old new result = MatchRead result (λ blamed. (blamed ≡ part) × PartStops old new) (part_health new ≡ part_health old)

  -- all parts: an input of the part that is blamed failed or gave up, and none did at any other answer
  abbrev pub ReadsWith : List OpenPart → List OpenPart → Result T MergeFault → Type 0
  ReadsWith old new result =
      MatchRead result (λ blamed. PartStopsAt blamed old new)
      (map part_health new ≡ map part_health old)

  -- the outputs: the one that is blamed failed, and none did at any other answer
  abbrev pub WritesWith : List Drain → Drain → ℕ → List Drain → Drain → ℕ → Result T MergeFault → Type 0
  WritesWith old old_underlay failures new new_underlay failures_now result =
      MatchWrite result (λ target. OutputStops target old old_underlay failures new new_underlay failures_now)
      (outputs_health new new_underlay failures_now ≡ outputs_health old old_underlay failures)

  -- the outputs of captures alone, whatever the lines' is
  abbrev pub CapturesWrite : List Drain → Drain → List Drain → Drain → Result T MergeFault → Type 0
  CapturesWrite old old_underlay new new_underlay result =
      (failures : ℕ) → WritesWith old old_underlay failures new new_underlay failures result

  -- that of the lines alone, whatever those of captures are
  abbrev pub LinesWrite : ℕ → ℕ → Result T MergeFault → Type 0
  LinesWrite failures failures_now result =
      (ports : List Drain) (underlay : Drain) → WritesWith ports underlay failures ports underlay failures_now result

  -- no read is blamed
  abbrev pub BlamesNoRead : Result T MergeFault → Type 0
  BlamesNoRead result = MatchRead result (λ blamed. ⊥) ⊤

  -- no write is
  abbrev pub BlamesNoWrite : Result T MergeFault → Type 0
  BlamesNoWrite result = MatchWrite result (λ target. ⊥) ⊤

  -- a merge comes to its end and this holds, or it is stopped by the device that it blames
  abbrev pub UnlessBlamed : List OpenPart → List OpenPart → List Drain → Drain → ℕ → List Drain → Drain → ℕ
      → Result T MergeFault → Type 0 → Type 0
  UnlessBlamed parts parts_now old old_underlay failures new new_underlay failures_now (Ok x) P = P
  UnlessBlamed parts parts_now old old_underlay failures new new_underlay failures_now (Err (faults.Read part)) P =
      PartStopsAt part parts parts_now
  UnlessBlamed parts parts_now old old_underlay failures new new_underlay failures_now (Err (faults.Write target)) P =
      OutputStops target old old_underlay failures new new_underlay failures_now
  UnlessBlamed parts parts_now old old_underlay failures new new_underlay failures_now (Err (faults.Missing number)) P = ⊥
  UnlessBlamed parts parts_now old old_underlay failures new new_underlay failures_now (Err (faults.Part part fault)) P = ⊥

-- ---- what is opened

-- a source that isn't opened is handed back: it gave up where a read is blamed, and its input failed at no other fault
abbrev pub SourceBack : SourceFault → Stream → Stream → Type 0
SourceBack source.Read old new = GivesUp old.supply new.supply
SourceBack source.NotPcap old new = new.supply.failures ≡ old.supply.failures
SourceBack source.BadLink old new = new.supply.failures ≡ old.supply.failures
SourceBack source.TooLarge old new = new.supply.failures ≡ old.supply.failures
SourceBack source.BadFraction old new = new.supply.failures ≡ old.supply.failures

-- a capture is opened, and no read failed; or its source is handed back
abbrev pub OpenReads : Stream → Result Stream (SourceFault × Stream) → Type 0
OpenReads old (Ok s) = s.supply.failures ≡ old.supply.failures
OpenReads old (Err back) = SourceBack back.0 old back.1

-- the part of this number is opened, and no read failed; or its lines are handed back, of which a read failed where one is blamed
abbrev pub PartOpens : ℕ → Reader → List Stream → Stream → Result OpenPart (MergeFault × Reader) → Type 0
PartOpens part old ports underlay (Ok s) = part_health s ≡ record { lines = old.failures; captures = captures_health ports underlay }
PartOpens part old ports underlay (Err back) = LinesRead {T = Unit {0}} part old back.1 (Err back.0)
    × BlamesNoWrite {T = Unit {0}} (Err back.0)

-- a part is opened, or a read of its lines failed and is blamed
abbrev pub UnlessLines : ℕ → Reader → Result OpenPart (MergeFault × Reader) → Type 0
UnlessLines part old (Ok s) = ⊤
UnlessLines part old (Err (faults.Read blamed, back)) = (blamed ≡ part) × GoesOnBy 1 old.failures back.failures
UnlessLines part old (Err (faults.Write target, back)) = ⊥
UnlessLines part old (Err (faults.Missing number, back)) = ⊥
UnlessLines part old (Err (faults.Part other fault, back)) = ⊥
