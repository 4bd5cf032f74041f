-- What a run answers at each of its ends.
use Rattle.std.proofs.Common.{◌≡◌, ◌⊎◌, refl, ℕ, ◌==◌, true, false, List, length, map, Vec, Global, Result, Ok, Err, inl, inr}
use Rattle.config_text.specs.declared.fault.SettingsFault.{SettingsFault}
use Rattle.config_text.specs.declared.fault.SettingsFault.TheVariants as text
use Rattle.overlay_config.specs.Fault.{Meaning, GivesAs}
use Rattle.overlay_config.specs.Settings.{Settings}
use Rattle.overlay.specs.declared.settings.change.TimedChange.{TimedChange}
use Rattle.timeline.specs.Timeline.{Timeline, told}
use Rattle.timeline.specs.Timeline as timeline
use Rattle.timeline.specs.declared.fault.TimelineFault.{TimelineFault}
use Rattle.timeline.specs.declared.fault.TimelineFault.TheVariants as faults
use Rattle.capture_run.specs.Fault.{of_timeline, of_settings, of_changes}
use Rattle.capture_run.specs.Run.{Gives, run, by_timeline}
use Rattle.capture_run.specs.declared.fault.RunFault.{RunFault}
use Rattle.capture_run.specs.declared.fault.RunFault.TheVariants as variants
use Rattle.capture_run.specs.declared.fault.RunFault.TheVariants.{PortCount}

-- where a text is refused, its meaning is this fault, or memory was refused
pub refused : {A B : Type 0} (view : A → B) (fault : SettingsFault) (m : Meaning B) → GivesAs view (Err fault) m → (m ≡ Err fault) ⊎ (fault ≡ text.OutOfMemory)
refused view text.NotToml m h = inl h
refused view (text.Missing key) m h = inl h
refused view (text.BadValue key) m h = inl h
refused view (text.TwoSegments key) m h = inl h
refused view (text.NotRising key) m h = inl h
refused view (text.OverLimit key) m h = inl h
refused view text.OutOfMemory m h = inr refl

-- a fault is answered as itself
fault_given : (fault : RunFault) → Gives (Err fault) (Err fault)
fault_given (variants.Settings fault) = refl
fault_given (variants.Changes fault) = refl
fault_given variants.PortCount = refl
fault_given (variants.Capture tap fault) = refl
fault_given (variants.Record tap number fault) = refl
fault_given variants.OutOfMemory = tt

pub settings_fault : {A : Type 0} (view : A → Settings) (fault : SettingsFault) (s : Meaning Settings) (c : Meaning (List TimedChange)) (ports : List (Vec ℕ Global)) (underlay : List ℕ)
    → GivesAs view (Err fault) s → Gives (Err (of_settings fault)) (run s c ports underlay)
settings_fault view fault s c ports underlay h = by (refused view fault s h)
  where
    by : (s ≡ Err fault) ⊎ (fault ≡ text.OutOfMemory) → Gives (Err (of_settings fault)) (run s c ports underlay)
    by (inl is) = rw is (fault_given (of_settings fault))
    by (inr none) = rw none tt

pub changes_fault : {A : Type 0} (view : A → List TimedChange) (fault : SettingsFault) (s : Settings) (c : Meaning (List TimedChange)) (ports : List (Vec ℕ Global)) (underlay : List ℕ)
    → GivesAs view (Err fault) c → Gives (Err (of_changes fault)) (run (Ok s) c ports underlay)
changes_fault view fault s c ports underlay h = by (refused view fault c h)
  where
    by : (c ≡ Err fault) ⊎ (fault ≡ text.OutOfMemory) → Gives (Err (of_changes fault)) (run (Ok s) c ports underlay)
    by (inl is) = rw is (fault_given (of_changes fault))
    by (inr none) = rw none tt

pub timeline_fault : (fault : TimelineFault) (s : Settings) (changes : List TimedChange) (n : ℕ) (found : Result Timeline TimelineFault)
    → timeline.Gives (Err fault) found → Gives (Err (of_timeline fault)) (by_timeline s changes n found)
timeline_fault (faults.Capture tap fault) s changes n found h = rw h refl
timeline_fault (faults.Record tap number fault) s changes n found h = rw h refl
timeline_fault faults.OutOfMemory s changes n found h = tt

pub port_count_fault : (s : Settings) (changes : List TimedChange) (ports : List (Vec ℕ Global)) (underlay : List ℕ) → (length ports == length s.ports) ≡ false
    → run (Ok s) (Ok changes) ports underlay ≡ Err PortCount
port_count_fault s changes ports underlay h = rw h refl

pub ports_counted : (s : Settings) (changes : List TimedChange) (ports : List (Vec ℕ Global)) (underlay : List ℕ) → (length ports == length s.ports) ≡ true
    → run (Ok s) (Ok changes) ports underlay ≡ by_timeline s changes (length ports) (told (map (λ (c : TimedChange). c.at) changes) ports underlay)
ports_counted s changes ports underlay h = rw h refl
