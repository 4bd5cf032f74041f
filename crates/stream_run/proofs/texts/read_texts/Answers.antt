use Rattle.std.proofs.Common.{sym, subst, Vec, Global, Ok, Err}
use Rattle.overlay_config.specs.Change.{changes_in}
use Rattle.overlay_config.specs.Settings.{Settings, settings_in}
use Rattle.overlay.specs.declared.settings.change.TimedChange.{TimedChange}
use Rattle.capture_run.proofs.Faults.{changes_fault, settings_fault}
use Rattle.capture_run.specs.Run.{Gives, run}
use Rattle.stream_run.proofs.texts.read_texts.Goals as goal

pub returns-in-Err-clause-refused : goal.returns-in-Err-clause-refused
returns-in-Err-clause-refused c texts text =
    let s = settings_in c.args.settings.now in
    let changes = changes_in c.args.changes.now in
    subst (λ f. Gives (Err f) (run s changes texts text)) (sym c.of_settings.ensures)
    (settings_fault (λ (x : Settings). x) c.in-Err.fault s changes texts text c.in-Err.ensures)

pub returns-in-Err-changes_of-clause-refused : goal.returns-in-Err-changes_of-clause-refused
returns-in-Err-changes_of-clause-refused c texts text =
    let changes = changes_in c.args.changes.now in
    subst (λ m. Gives (Err c.of_changes.result) (run m changes texts text)) (sym c.in-Ok.ensures)
    (subst (λ f. Gives (Err f) (run (Ok c.in-Ok.read) changes texts text)) (sym c.of_changes.ensures)
    (changes_fault (λ (v : Vec TimedChange Global). v.items) c.in-Err-changes_of.fault c.in-Ok.read changes texts text c.in-Err-changes_of.ensures.value))
