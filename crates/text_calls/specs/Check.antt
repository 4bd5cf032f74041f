-- What a look at a settings text and a changes text tells. It states no standard.
use Rattle.std.specs.Prelude.{◌≡◌, ℕ, List, ◌++◌, codes, decimal, length, Result, Ok, Err, Vec}
use Rattle.std.specs.Global.{Global}
use Rattle.overlay_config.specs.Fault.{Meaning}
use Rattle.overlay_config.specs.Settings.{Settings}
use Rattle.overlay.specs.declared.settings.change.TimedChange.{TimedChange}
use Rattle.capture_run.specs.Fault.{of_changes, of_settings}
use Rattle.capture_run.specs.declared.fault.RunFault.{RunFault}
use Rattle.capture_run.specs.declared.fault.RunFault.TheVariants as faults

-- the numbers of ports, segments and changes, ended by LF
abbrev pub counts_line : ℕ → ℕ → ℕ → List ℕ
counts_line ports segments changes =
    codes "ok: "
    ++ (decimal ports ++ (codes " ports, " ++ (decimal segments ++ (codes " segments, " ++ (decimal changes ++ codes " changes\n")))))

-- what both texts mean: the first fault, the settings' before the changes', or else the settings and the changes
abbrev pub both : Meaning Settings → Meaning (List TimedChange) → Result (Settings × List TimedChange) RunFault
both (Err fault) changes = Err (of_settings fault)
both (Ok settings) (Err fault) = Err (of_changes fault)
both (Ok settings) (Ok changes) = Ok (settings, changes)

-- what was read is what they mean, unless memory was refused
abbrev pub Reads : Result (Settings × Vec TimedChange Global) RunFault → Result (Settings × List TimedChange) RunFault → Type 0
Reads (Ok read) found = found ≡ Ok (read.0, read.1.items)
Reads (Err faults.OutOfMemory) found = Unit {0}
Reads (Err fault) found = found ≡ Err fault

-- a text is the one that was found, or the fault is, unless memory was refused
abbrev pub GivesText : Result (Vec ℕ Global) RunFault → Result (List ℕ) RunFault → Type 0
GivesText (Ok text) found = found ≡ Ok text.items
GivesText (Err faults.OutOfMemory) found = Unit {0}
GivesText (Err fault) found = found ≡ Err fault

-- by what the texts mean: the first fault, the settings' before the changes', or else the line
abbrev pub checked : Meaning Settings → Meaning (List TimedChange) → Result (List ℕ) RunFault
checked (Err fault) changes = Err (of_settings fault)
checked (Ok settings) (Err fault) = Err (of_changes fault)
checked (Ok settings) (Ok changes) = Ok (counts_line (length settings.ports) (length settings.segments) (length changes))
