-- What a look at texts tells where one is refused.
use Rattle.std.proofs.Common.{refl, List, Ok, Err}
use Rattle.config_text.specs.declared.fault.SettingsFault.{SettingsFault}
use Rattle.config_text.specs.declared.fault.SettingsFault.TheVariants as text
use Rattle.overlay_config.specs.Fault.{Meaning, GivesAs}
use Rattle.overlay_config.specs.Settings.{Settings}
use Rattle.overlay.specs.declared.settings.change.TimedChange.{TimedChange}
use Rattle.capture_run.specs.Fault.{of_settings, of_changes}
use Rattle.text_calls.specs.Check.{Reads, both}

pub settings_refused : {A : Type 0} (view : A → Settings) (fault : SettingsFault) (s : Meaning Settings) (c : Meaning (List TimedChange))
    → GivesAs view (Err fault) s → Reads (Err (of_settings fault)) (both s c)
settings_refused view text.NotToml s c h = rw h refl
settings_refused view (text.Missing key) s c h = rw h refl
settings_refused view (text.BadValue key) s c h = rw h refl
settings_refused view (text.TwoSegments key) s c h = rw h refl
settings_refused view (text.NotRising key) s c h = rw h refl
settings_refused view (text.OverLimit key) s c h = rw h refl
settings_refused view text.OutOfMemory s c h = tt

pub changes_refused : {A : Type 0} (view : A → List TimedChange) (fault : SettingsFault) (s : Settings) (c : Meaning (List TimedChange))
    → GivesAs view (Err fault) c → Reads (Err (of_changes fault)) (both (Ok s) c)
changes_refused view text.NotToml s c h = rw h refl
changes_refused view (text.Missing key) s c h = rw h refl
changes_refused view (text.BadValue key) s c h = rw h refl
changes_refused view (text.TwoSegments key) s c h = rw h refl
changes_refused view (text.NotRising key) s c h = rw h refl
changes_refused view (text.OverLimit key) s c h = rw h refl
changes_refused view text.OutOfMemory s c h = tt
