-- What a whole run answers: what comes out of it, or the first fault. It states no standard.
use Rattle.std.specs.Prelude.{◌≡◌, ◌==◌, ℕ, if◌then◌else◌, List, length, map, Vec, Result, Ok, Err}
use Rattle.std.specs.declared.alloc.Global.{Global}
use Rattle.overlay_config.specs.Fault.{Meaning}
use Rattle.overlay_config.specs.Settings.{Settings}
use Rattle.overlay.specs.declared.settings.change.TimedChange.{TimedChange}
use Rattle.timeline.specs.Timeline.{Timeline, told}
use Rattle.timeline.specs.declared.fault.TimelineFault.{TimelineFault}
use Rattle.endpoint_core.specs.Opened.{settings_told}
use Rattle.capture_run.specs.Fault.{of_timeline, of_settings, of_changes}
use Rattle.capture_run.specs.Outputs.{Outputs, outputs}
use Rattle.capture_run.specs.Writing.{seen}
use Rattle.capture_run.specs.declared.fault.RunFault.{RunFault}
use Rattle.capture_run.specs.declared.fault.RunFault.TheVariants as faults
use Rattle.capture_run.specs.declared.outputs.Outputs.{Outputs as Texts}

-- with these settings and changes, by what the captures tell
abbrev pub by_timeline : Settings → List TimedChange → ℕ → Result Timeline TimelineFault → Result Outputs RunFault
by_timeline s changes ports (Ok timeline) = Ok (outputs (settings_told s) (map (λ c. c.change) changes) ports timeline)
by_timeline s changes ports (Err fault) = Err (of_timeline fault)

-- the same with the octets of the captures: the number of captures is asked first
abbrev pub with_texts : Settings → List TimedChange → List (Vec ℕ Global) → List ℕ → Result Outputs RunFault
with_texts s changes ports underlay =
    if length ports == length s.ports then by_timeline s changes (length ports) (told (map (λ c. c.at) changes) ports underlay)
    else Err faults.PortCount

-- the same with the settings, and what the changes mean
abbrev pub with_settings : Settings → Meaning (List TimedChange) → List (Vec ℕ Global) → List ℕ → Result Outputs RunFault
with_settings s (Ok changes) ports underlay = with_texts s changes ports underlay
with_settings s (Err fault) ports underlay = Err (of_changes fault)

-- by what the settings and the changes mean: the settings' fault first, then the changes', the number of captures, the
-- captures
abbrev pub run : Meaning Settings → Meaning (List TimedChange) → List (Vec ℕ Global) → List ℕ → Result Outputs RunFault
run (Ok s) changes ports underlay = with_settings s changes ports underlay
run (Err fault) changes ports underlay = Err (of_settings fault)

-- what a function returned is that, unless memory was refused
abbrev pub Gives : Result Texts RunFault → Result Outputs RunFault → Type 0
Gives (Ok texts) found = found ≡ Ok (seen texts)
Gives (Err faults.OutOfMemory) found = Unit {0}
Gives (Err fault) found = found ≡ Err fault
