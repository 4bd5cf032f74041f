-- What the captures of a part have left, and what a merge added to its outputs, capture by capture.
-- It states no standard.
--     IsWritten      the text of a record that a run wrote
--     AreLeft      each capture of a part has this text left
--     AreAdded      each capture of the outputs holds this text more
--     AreKept      each holds what it held
use Rattle.std.specs.Prelude.{◌≡◌, ◌<◌, ◌≤◌, ◌-◌, ⊤, ℕ, List, length, slice_index_or, Option, Some, Result, Ok, Err}
use Rattle.std.specs.Io.KnownBytes.{Appends, Keeps}
use Rattle.pcap.specs.Record.{Record, last_moment, longest}
use Rattle.pcap.specs.Written.{whole_frame, written_record, written_style}
use Rattle.pcap.specs.Sink.{Drain}
use Rattle.pcap.specs.Source.{Open, Stream}
use Rattle.timeline.specs.declared.source.Tap.{Tap}
use Rattle.timeline.specs.declared.source.Tap.TheVariants.{Port, Underlay}
use Rattle.part_merge.specs.declared.fault.MergeFault.{MergeFault}
use Rattle.part_merge.specs.declared.fault.MergeFault.TheVariants as faults

-- the text of a record that holds a whole frame, as a run writes it
pub record IsWritten (text : List ℕ) : Type 0 where
  pub moment : ℕ
  pub octets : List ℕ
  pub early : moment ≤ last_moment
  pub short : length octets ≤ longest
  pub is : text ≡ written_record (whole_frame moment octets)

-- a capture that a run wrote is open, and this is left of its text
pub record IsLeft (text : List ℕ) (s : Stream) : Type 0 where
  pub last : Option Record
  pub stands : s.standing ≡ Open written_style last
  pub rest : s.supply.rest ≡ Some text

-- there is such a capture where there are so many ports
abbrev pub IsTap : ℕ → Tap → Type 0
IsTap ports (Port port) = (0 < port) × (port ≤ ports)
IsTap ports Underlay = ⊤

module _ {A : Type 0} where
  -- what belongs to a capture: that of port 1 first, or that of the underlay
  abbrev pub of_tap : List A → A → Tap → A
  of_tap ports underlay (Port port) = slice_index_or ports (port - 1) underlay
  of_tap ports underlay Underlay = underlay

-- each capture of a part has this text left
abbrev pub AreLeft : (Tap → List ℕ) → List Stream → Stream → Type 0
AreLeft text ports underlay = (tap : Tap) → IsTap (length ports) tap → IsLeft (text tap) (of_tap ports underlay tap)

-- an output holds this text more than before
abbrev pub IsAdded : List ℕ → Drain → Drain → Type 0
IsAdded text old new = Appends old.written new.written text

-- each capture of the outputs does
abbrev pub AreAdded : (Tap → List ℕ) → List Drain → Drain → List Drain → Drain → Type 0
AreAdded text old old_underlay new new_underlay = (tap : Tap) → IsTap (length old) tap
    → IsAdded (text tap) (of_tap old old_underlay tap) (of_tap new new_underlay tap)

-- no capture of the outputs holds anything else
abbrev pub AreKept : List Drain → Drain → List Drain → Drain → Type 0
AreKept old old_underlay new new_underlay = (tap : Tap) → IsTap (length old) tap
    → Keeps (of_tap old old_underlay tap).written (of_tap new new_underlay tap).written

-- nothing is wrong with what was read: at most a device failed
abbrev pub IsDeviceFault : MergeFault → Type 0
IsDeviceFault (faults.Read part) = ⊤
IsDeviceFault (faults.Write target) = ⊤
IsDeviceFault (faults.Missing number) = ⊥
IsDeviceFault (faults.Part part fault) = ⊥

module _ {T : Type 0} where
  -- this holds, or a device failed
  abbrev pub UnlessDevice : Result T MergeFault → Type 0 → Type 0
  UnlessDevice (Ok x) P = P
  UnlessDevice (Err fault) P = IsDeviceFault fault
