-- The parts of a run in files: what each part's run left in its outputs, and what is opened over that. It states no standard.
--     Part      a part: the segments that it is asked for, its outputs, and what is opened over them
--     RanOver      its outputs were empty, and its run stopped at no fault
--     ReadOver, OpenedOver      it is read, and opened, over what its outputs hold
--     HoldCaptures      outputs that captures can be opened over
--     Merges      what a merge makes of parts that are opened
--     AreOctets, AreCounted      captures of octets, and events that can be numbered
use Rattle.std.specs.Prelude.{◌≡◌, ◌<◌, ℕ, ◌^◌, List, [], ◌++◌, length, map, slice_index_or, Option, Some, Vec, Result, Ok}
use Rattle.std.specs.List.{AllByRecursion}
use Rattle.std.specs.declared.alloc.Global.{Global}
use Rattle.wire.specs.Octets.{IsText}
use Rattle.pcap.specs.Written.{written_header}
use Rattle.pcap.specs.Sink.{Drain}
use Rattle.pcap.specs.Source.{Stream}
use Rattle.line_stream.specs.Lines.{Reader}
use Rattle.timeline.specs.Timeline.{Timeline, told}
use Rattle.timeline.specs.declared.timeline.Cut.{Cut}
use Rattle.overlay_config.specs.Change.{changes_in}
use Rattle.overlay_config.specs.Settings.{settings_in}
use Rattle.overlay.specs.declared.settings.change.TimedChange.{TimedChange}
use Rattle.segment_set.specs.Segments.{Segments}
use Rattle.stream_run.specs.Over.{IsRunOverAmong}
use Rattle.stream_run.specs.Stage.{Drains}
use Rattle.part_merge.specs.Blame.{PartOpens, ReadsWith, WritesWith}
use Rattle.part_merge.specs.Coming.{Holds, HoldsAll, OpenPart, UnlessPart}
use Rattle.part_merge.specs.Copied.{Opens}
use Rattle.part_merge.specs.Merged.{Piece, merged, side_by_side, texts_of_pieces}
use Rattle.part_merge.specs.Numbers.{UnlessMissing}
use Rattle.part_merge.specs.Whole.{Adds, AreParts}
use Rattle.part_merge.specs.declared.fault.MergeFault.{MergeFault}

-- ---- a part

-- a part of a run
pub record Part : Type 0 where
  pub segments : Segments
  -- its outputs before its run, and behind it
  pub old : Drains
  pub new : Drains
  -- its lines, of which none was read yet, and the sources of its captures, of which nothing was
  pub reader : Reader
  pub sources : List Stream
  pub underlay_source : Stream
  -- its captures with their headers read, that of port 1 first
  pub ports : List Stream
  pub underlay : Stream
  -- all of it, with its first line read
  pub opened : OpenPart

-- ---- its run

-- an output tells what it holds, and that is nothing
abbrev pub IsEmpty : Drain → Type 0
IsEmpty output = output.written ≡ Some []

-- each output of a run holds nothing
pub record AreEmpty (outputs : Drains) : Type 0 where
  pub ports : (d : Drain) (k : ℕ) → k < length outputs.ports → IsEmpty (slice_index_or outputs.ports k d)
  pub underlay : IsEmpty outputs.underlay
  pub decisions : IsEmpty outputs.decisions

-- with the settings and the changes of these texts, over captures of these octets, its run stopped at no fault, and its
-- outputs held nothing before
pub record RanOver (settings changes : List ℕ) (texts : List (Vec ℕ Global)) (text : List ℕ) (p : Part) : Type 0 where
  pub empty : AreEmpty p.old
  pub ran : IsRunOverAmong p.segments (settings_in settings) (changes_in changes) texts text p.old p.new (Ok tt)

-- ---- its files

-- a capture is opened over what an output holds
pub record IsCaptureOf (output : Drain) (source capture : Stream) : Type 0 where
  pub holds : source.supply.rest ≡ output.written
  pub opened : (text : List ℕ) → source.supply.rest ≡ Some (written_header ++ text) → Opens text (Ok capture)

-- its lines and its captures are read from what its outputs hold
pub record ReadOver (p : Part) : Type 0 where
  pub lines : p.reader.rest ≡ p.new.decisions.written
  pub many : length p.ports ≡ length p.new.ports
  pub ports : (d : Drain) (s : Stream) (k : ℕ) → k < length p.new.ports
      → IsCaptureOf (slice_index_or p.new.ports k d) (slice_index_or p.sources k s) (slice_index_or p.ports k s)
  pub underlay : IsCaptureOf p.new.underlay p.underlay_source p.underlay

-- what comes of opening a part of this number with these lines and captures
pub record OpensWith (number : ℕ) (p : Part) (result : Result OpenPart (MergeFault × Reader)) : Type 0 where
  pub opened : (count : ℕ) (pieces : List Piece) (cuts : List (List ℕ)) → HoldsAll count pieces cuts p.reader p.ports p.underlay
      → UnlessPart result (Holds count pieces cuts)
  pub reads : PartOpens number p.reader p.ports p.underlay result

-- it is opened over what its outputs hold
pub record OpenedOver (p : Part) : Type 0 where
  pub read : ReadOver p
  pub number : ℕ
  pub part : OpensWith number p (Ok p.opened)

-- an output holds the header of a capture and something behind it
abbrev pub HoldsCapture : Drain → Type 0
HoldsCapture output = (text : List ℕ) × (output.written ≡ Some (written_header ++ text))

-- so does each but that of the lines
pub record HoldCaptures (outputs : Drains) : Type 0 where
  pub ports : (d : Drain) (k : ℕ) → k < length outputs.ports → HoldsCapture (slice_index_or outputs.ports k d)
  pub underlay : HoldsCapture outputs.underlay

-- ---- all parts

-- the segments that each part is asked for
abbrev pub segments_of : List Part → List Segments
segments_of parts = map (λ (p : Part). p.segments) parts

-- the parts as they are opened
abbrev pub opened_parts : List Part → List OpenPart
opened_parts parts = map (λ (p : Part). p.opened) parts

-- a merge of parts that are opened: of whatever pieces these hold, it puts the texts to its outputs, or tells which is missing;
-- and it blames a device only where that failed
pub record Merges (opened opened_now : List OpenPart) (old : List Drain) (old_underlay : Drain) (written : Option (List ℕ))
    (failures : ℕ) (new : List Drain) (new_underlay : Drain) (now : Option (List ℕ)) (failures_now : ℕ)
    (result : Result (Unit {0}) MergeFault) : Type 0 where
  pub puts : (pieces : List (List Piece)) (cuts : List (List Cut)) → AreParts (length old) pieces cuts opened
      → UnlessMissing result (merged pieces)
      (Adds (texts_of_pieces (length old) (merged pieces) (side_by_side cuts)) old old_underlay written new new_underlay
      now)
  pub reads : ReadsWith opened opened_now result
  pub writes : WritesWith old old_underlay failures new new_underlay failures_now result

-- ---- what comes in

-- the captures are octets
abbrev pub AreOctets : List (Vec ℕ Global) → List ℕ → Type 0
AreOctets texts text = AllByRecursion (λ (v : Vec ℕ Global). IsText v.items) texts × IsText text

-- the changes and the records of the captures are fewer than numbers of 64 bits count
abbrev pub AreCounted : List ℕ → List (Vec ℕ Global) → List ℕ → Type 0
AreCounted changes texts text =
    (cs : List TimedChange) (timeline : Timeline) → changes_in changes ≡ Ok cs
    → told (map (λ (c : TimedChange). c.at) cs) texts text ≡ Ok timeline
    → length timeline.events < 2 ^ 64
