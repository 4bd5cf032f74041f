-- What comes of a record that is copied; it serves the contracts of the merge's parts.
use Rattle.std.specs.Prelude.{◌≡◌, ◌≢◌, ⊤, ◌⊎◌, ℕ, true, List, length, IfSome, IsSome, None, Result, Ok, Err}
use Rattle.pcap.specs.Record.{Record}
use Rattle.pcap.specs.Sink.{Drain}
use Rattle.pcap.specs.Source.{Stream, answer, ends_cut, lent}
use Rattle.pcap.specs.declared.stream.fault.SourceFault.{SourceFault}
use Rattle.pcap.specs.declared.stream.fault.SourceFault.TheVariants as source
use Rattle.part_merge.specs.Left.{IsAdded, IsLeft}
use Rattle.part_merge.specs.declared.capture.Stop.{Stop}
use Rattle.part_merge.specs.declared.capture.Stop.TheVariants as stops
use Rattle.part_lines.specs.declared.part_fault.RecordsFault.{RecordsFault}
use Rattle.part_lines.specs.declared.part_fault.RecordsFault.TheVariants as faults

-- what a fault of a source stops a copy by
abbrev pub stop_by : SourceFault → Stop
stop_by source.Read = stops.Read
stop_by source.NotPcap = stops.Wrong (faults.Source source.NotPcap)
stop_by source.BadLink = stops.Wrong (faults.Source source.BadLink)
stop_by source.TooLarge = stops.Wrong (faults.Source source.TooLarge)
stop_by source.BadFraction = stops.Wrong (faults.Source source.BadFraction)

-- it is open, with all of that text left behind its header; or its source is handed back, at which a read failed
abbrev pub Opens : List ℕ → Result Stream (SourceFault × Stream) → Type 0
Opens text (Ok s) = IsLeft text s
Opens text (Err back) = back.0 ≡ source.Read

-- a device failed, and nothing is wrong
abbrev pub IsDeviceStop : Stop → Type 0
IsDeviceStop stops.Read = ⊤
IsDeviceStop stops.Write = ⊤
IsDeviceStop (stops.Wrong fault) = ⊥

module _ {T : Type 0} where
  -- this record was copied and the rest is left, or a device failed
  abbrev pub Copies : List ℕ → List ℕ → Stream → Drain → Drain → Result T Stop → Type 0
  Copies text rest new old_sink new_sink (Ok x) = IsLeft rest new × IsAdded text old_sink new_sink
  Copies text rest new old_sink new_sink (Err stop) = IsDeviceStop stop

  -- nothing is left, or a device failed
  abbrev pub EndsWith : Result T Stop → Type 0
  EndsWith (Ok x) = ⊤
  EndsWith (Err stop) = IsDeviceStop stop

-- the capture has this fault, as it stands behind what was read
abbrev pub HasFault : RecordsFault → Stream → Type 0
HasFault (faults.Source fault) s = answer s.standing ≡ Err fault
HasFault faults.Missing s = lent s.standing ≡ None
HasFault faults.LeftOver s = IsSome (lent s.standing) ⊎ (ends_cut s.standing ≡ true)
HasFault faults.Sliced s = IfSome (lent s.standing) (λ (r : Record). length r.octets ≢ r.original)

module _ {T : Type 0} where
  -- a copy says what is wrong
  abbrev pub TellsStop : Stream → Result T Stop → Type 0
  TellsStop s (Ok x) = IsSome (lent s.standing)
  TellsStop s (Err stops.Read) = answer s.standing ≡ Err source.Read
  TellsStop s (Err stops.Write) = IsSome (lent s.standing)
  TellsStop s (Err (stops.Wrong fault)) = HasFault fault s

  -- the end of a capture is as it is told
  abbrev pub TellsEnd : Stream → Result T Stop → Type 0
  TellsEnd s (Ok x) = (lent s.standing ≡ None) × (ends_cut s.standing ≡ Rattle.std.specs.Prelude.false)
  TellsEnd s (Err stops.Read) = answer s.standing ≡ Err source.Read
  TellsEnd s (Err stops.Write) = ⊥
  TellsEnd s (Err (stops.Wrong fault)) = HasFault fault s
