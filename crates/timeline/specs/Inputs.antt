-- The captures that come in, and what is opened of them. It states no standard.
use Rattle.std.specs.Prelude.{◌<◌, ℕ, ◌+◌, ◌^◌, List, [], ◌∷◌, length, Vec, Option, Some, None, Result, Ok, Err}
use Rattle.std.specs.List.{AllByRecursion, filter_map}
use Rattle.std.specs.declared.alloc.Global.{Global}
use Rattle.pcap.specs.Capture.{opened}
use Rattle.pcap.specs.Reading.{Reading}
use Rattle.pcap.specs.Record.{IsWithinLimits}
use Rattle.pcap.specs.declared.text.header.CaptureFault.{CaptureFault}
use Rattle.timeline.specs.declared.capture.Opened.{Opened}
use Rattle.timeline.specs.declared.source.Tap.{Tap}
use Rattle.timeline.specs.declared.source.Tap.TheVariants.{Port, Underlay}

-- a capture that comes in: where it is taken, and its text
pub record Input : Type 0 where
  pub tap : Tap
  pub text : List ℕ

-- the captures of the ports, rising from this one, and then that of the underlay
abbrev pub inputs_from : ℕ → List (Vec ℕ Global) → List ℕ → List Input
inputs_from port [] underlay = record { tap = Underlay; text = underlay } ∷ []
inputs_from port (v ∷ vs) underlay = record { tap = Port port; text = v.items } ∷ inputs_from (port + 1) vs underlay

-- the captures of a run, in their order
abbrev pub inputs : List (Vec ℕ Global) → List ℕ → List Input
inputs ports underlay = inputs_from 1 ports underlay

-- a capture that is opened has records, and an end
abbrev pub opened_by : Tap → Result Reading CaptureFault → Option Opened
opened_by tap (Ok reading) = Some (record { tap = tap; capture = reading })
opened_by tap (Err fault) = None

-- the captures that can be opened
abbrev pub opened_captures : List Input → List Opened
opened_captures inputs = filter_map (λ input. opened_by input.tap (opened input.text)) inputs

-- what is known of a capture that was opened
pub record HasBoundedRecords (c : Opened) : Type 0 where
  pub few : length c.capture.records < 2 ^ 60
  pub limits : AllByRecursion IsWithinLimits c.capture.records
