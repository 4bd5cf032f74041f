-- What the texts of a run tell: its events in order, or the first fault. It states no standard.
use Rattle.std.specs.Prelude.{◌≡◌, ℕ, List, [], ◌∷◌, length, Vec, Option, Some, None, Result, Ok, Err}
use Rattle.std.specs.List.{filter_map}
use Rattle.std.specs.declared.alloc.Global.{Global}
use Rattle.pcap.specs.Next.{End, Whole, Cut, Faulty}
use Rattle.timeline.specs.Events.{all_events}
use Rattle.timeline.specs.Faults.{faults_of}
use Rattle.timeline.specs.Inputs.{inputs, opened_captures}
use Rattle.timeline.specs.Order.{merged}
use Rattle.timeline.specs.declared.capture.Opened.{Opened}
use Rattle.timeline.specs.declared.event.Event.{Event}
use Rattle.timeline.specs.declared.fault.TimelineFault.{TimelineFault}
use Rattle.timeline.specs.declared.fault.TimelineFault.TheVariants as faults
use Rattle.timeline.specs.declared.source.Tap.{Tap}
use Rattle.timeline.specs.declared.timeline.Cut.{Cut as CutRest}

-- events, and the captures that end with a rest that is no whole record
pub record Timeline : Type 0 where
  pub events : List Event
  pub cuts : List CutRest

-- such a rest stands behind so many whole records
abbrev pub cut_by : Tap → ℕ → End → Option CutRest
cut_by tap count Whole = None
cut_by tap count Cut = Some (record { tap = tap; whole = count })
cut_by tap count (Faulty fault) = None

-- the cut rest that a capture ends with, where it does
abbrev pub cut_of : Opened → Option CutRest
cut_of c = cut_by c.tap (length c.capture.records) c.capture.end

-- those of all captures, in their order
abbrev pub cuts_of : List Opened → List CutRest
cuts_of captures = filter_map cut_of captures

-- the first fault, or else this
abbrev pub if_faultless : List TimelineFault → Timeline → Result Timeline TimelineFault
if_faultless [] timeline = Ok timeline
if_faultless (fault ∷ others) timeline = Err fault

-- what the moments of the changes and the captures of the ports and of the underlay tell
unfoldable pub told : List ℕ → List (Vec ℕ Global) → List ℕ → Result Timeline TimelineFault
told changes ports underlay =
    let captures = opened_captures (inputs ports underlay) in
    if_faultless (faults_of (inputs ports underlay)) (record { events = merged (all_events changes captures); cuts = cuts_of captures })

-- an answer is what is told, unless memory was refused
abbrev pub Gives : Result Timeline TimelineFault → Result Timeline TimelineFault → Type 0
Gives (Ok timeline) found = found ≡ Ok timeline
Gives (Err faults.OutOfMemory) found = Unit {0}
Gives (Err (faults.Capture tap fault)) found = found ≡ Err (faults.Capture tap fault)
Gives (Err (faults.Record tap number fault)) found = found ≡ Err (faults.Record tap number fault)
