-- What a capture of packets from the underlay brings to a fresh endpoint, packet by packet, each with its layers.
-- It states no standard.
use Rattle.std.specs.Prelude.{◌≡◌, ℕ, ◌+◌, List, [], ◌∷◌, ◌++◌, map, Vec, None, Result, Ok, Err}
use Rattle.std.specs.List.{flat_map, zip}
use Rattle.std.specs.declared.alloc.Global.{Global}
use Rattle.overlay.specs.Overlay.{Overlay}
use Rattle.timeline.specs.Timeline.{Timeline, told}
use Rattle.timeline.specs.declared.event.Event.{Event as Happens}
use Rattle.timeline.specs.declared.event.Happening.{Happening}
use Rattle.timeline.specs.declared.event.Happening.TheVariants as happenings
use Rattle.timeline.specs.declared.fault.TimelineFault.{TimelineFault}
use Rattle.overlay_config.specs.Fault.{Meaning}
use Rattle.overlay_config.specs.Settings.{Settings as Told}
use Rattle.endpoint_core.specs.Opened.{settings_told}
use Rattle.endpoint_core.specs.Settings.{Settings}
use Rattle.endpoint_core.specs.Run.{decisions}
use Rattle.endpoint_core.specs.Step.{Answer}
use Rattle.capture_run.specs.Fault.{of_timeline, of_settings}
use Rattle.decision_lines.specs.Lines.{line, answer_text, cut_line}
use Rattle.capture_run.specs.Outputs.{event_of}
use Rattle.capture_run.specs.declared.fault.RunFault.{RunFault}
use Rattle.capture_run.specs.declared.fault.RunFault.TheVariants as faults
use Rattle.packet_layers.specs.Dissection.{dissection}
use Rattle.explanation.specs.declared.text.Values.{Values}
use Rattle.explanation.specs.Text.{card_line, is_left_at, layers_text}

-- the octets of a record
abbrev pub octets_in : Happening → List ℕ
octets_in (happenings.Change index) = []
octets_in (happenings.Record tap captured) = captured.octets

-- the decision line of an event of this number, the layers of its packet, and what is told of its checksum
abbrev pub event_text : Overlay → ℕ → Values → ℕ → Happens × Answer → List ℕ
event_text overlay depth values number row =
    let b = octets_in row.0.happening in
    let layers = dissection overlay depth b in
    line number row.0 (answer_text None row.1) ++ (layers_text values layers ++ card_line (is_left_at overlay b layers.stop))

-- the events are numbered on from this many
abbrev pub event_texts : Overlay → ℕ → Values → ℕ → List (Happens × Answer) → List ℕ
event_texts overlay depth values count [] = []
event_texts overlay depth values count (row ∷ rows) =
    event_text overlay depth values (count + 1) row ++ event_texts overlay depth values (count + 1) rows

-- the events of a capture, each as the bridge of its segment decides it, and a line where the capture ends with a cut rest
abbrev pub explanation : Settings → ℕ → Values → Timeline → List ℕ
explanation S depth values timeline =
    event_texts S.overlay depth values 0 (zip timeline.events (decisions S [] (map (event_of []) timeline.events)))
    ++ flat_map cut_line timeline.cuts

-- the explanation of a capture that was read, or its fault
abbrev pub by_timeline : Told → ℕ → Values → Result Timeline TimelineFault → Result (List ℕ) RunFault
by_timeline s depth values (Ok timeline) = Ok (explanation (settings_told s) depth values timeline)
by_timeline s depth values (Err fault) = Err (of_timeline fault)

-- by what the settings mean and the capture tells: the settings' fault first
abbrev pub explained_run : Meaning Told → List ℕ → ℕ → Values → Result (List ℕ) RunFault
explained_run (Ok s) capture depth values = by_timeline s depth values (told [] [] capture)
explained_run (Err fault) capture depth values = Err (of_settings fault)

-- what a function returned is that, unless memory was refused
abbrev pub Gives : Result (Vec ℕ Global) RunFault → Result (List ℕ) RunFault → Type 0
Gives (Ok text) found = found ≡ Ok text.items
Gives (Err faults.OutOfMemory) found = Unit {0}
Gives (Err fault) found = found ≡ Err fault
