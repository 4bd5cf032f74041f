-- The faults of a run. It states no standard.
use Rattle.config_text.specs.declared.fault.SettingsFault.{SettingsFault}
use Rattle.config_text.specs.declared.fault.SettingsFault.TheVariants as text
use Rattle.timeline.specs.declared.fault.TimelineFault.{TimelineFault}
use Rattle.timeline.specs.declared.fault.TimelineFault.TheVariants as timeline
use Rattle.capture_run.specs.declared.fault.RunFault.{RunFault}
use Rattle.capture_run.specs.declared.fault.RunFault.TheVariants as faults

-- a fault of the captures as one of the run
abbrev pub of_timeline : TimelineFault → RunFault
of_timeline (timeline.Capture tap fault) = faults.Capture tap fault
of_timeline (timeline.Record tap number fault) = faults.Record tap number fault
of_timeline timeline.OutOfMemory = faults.OutOfMemory

-- a fault of a text as one of the run, which names the text
abbrev pub of_text : (SettingsFault → RunFault) → SettingsFault → RunFault
of_text names text.OutOfMemory = faults.OutOfMemory
of_text names fault = names fault

-- a fault of the settings text
abbrev pub of_settings : SettingsFault → RunFault
of_settings fault = of_text (λ f. faults.Settings f) fault

-- a fault of the changes text
abbrev pub of_changes : SettingsFault → RunFault
of_changes fault = of_text (λ f. faults.Changes f) fault
