-- What is answered at each fault.
use Rattle.std.proofs.Common.{refl, ℕ, List, Result, Err}
use Rattle.config_text.specs.declared.fault.SettingsFault.{SettingsFault}
use Rattle.config_text.specs.declared.fault.SettingsFault.TheVariants as text
use Rattle.overlay_config.specs.Fault.{Meaning, GivesAs}
use Rattle.overlay_config.specs.Settings.{Settings}
use Rattle.timeline.specs.Timeline.{Timeline}
use Rattle.timeline.specs.Timeline as timeline
use Rattle.timeline.specs.declared.fault.TimelineFault.{TimelineFault}
use Rattle.timeline.specs.declared.fault.TimelineFault.TheVariants as faults
use Rattle.capture_run.specs.Fault.{of_timeline, of_settings}
use Rattle.explanation.specs.declared.text.Values.{Values}
use Rattle.explanation.specs.Explanation.{Gives, explained_run, by_timeline}

pub settings_fault : (fault : SettingsFault) (s : Meaning Settings) (capture : List ℕ) (depth : ℕ) (values : Values)
    → GivesAs (λ (x : Settings). x) (Err fault) s → Gives (Err (of_settings fault)) (explained_run s capture depth values)
settings_fault text.NotToml s capture depth values h = rw h refl
settings_fault (text.Missing key) s capture depth values h = rw h refl
settings_fault (text.BadValue key) s capture depth values h = rw h refl
settings_fault (text.TwoSegments key) s capture depth values h = rw h refl
settings_fault (text.NotRising key) s capture depth values h = rw h refl
settings_fault (text.OverLimit key) s capture depth values h = rw h refl
settings_fault text.OutOfMemory s capture depth values h = tt

pub timeline_fault : (fault : TimelineFault) (s : Settings) (depth : ℕ) (values : Values) (found : Result Timeline TimelineFault)
    → timeline.Gives (Err fault) found → Gives (Err (of_timeline fault)) (by_timeline s depth values found)
timeline_fault (faults.Capture tap fault) s depth values found h = rw h refl
timeline_fault (faults.Record tap number fault) s depth values found h = rw h refl
timeline_fault faults.OutOfMemory s depth values found h = tt
