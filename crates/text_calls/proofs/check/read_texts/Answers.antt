use Rattle.std.proofs.Common.{◌∙◌, ap, sym, subst, Vec, Global, Ok, Err}
use Rattle.overlay_config.specs.Settings.{Settings, settings_in}
use Rattle.overlay_config.specs.Change.{changes_in}
use Rattle.overlay.specs.declared.settings.change.TimedChange.{TimedChange}
use Rattle.capture_run.specs.Fault.{of_changes}
use Rattle.text_calls.specs.Check.{Reads, both}
use Rattle.text_calls.proofs.Refused.{changes_refused, settings_refused}
use Rattle.text_calls.proofs.check.read_texts.Goals as goal

pub returns-in-Err : goal.returns-in-Err
returns-in-Err c =
    let s = settings_in c.args.settings.now in
    let changes = changes_in c.args.changes.now in
    subst (λ f. Reads (Err f) (both s changes)) (sym c.of_settings.ensures) (settings_refused (λ (x : Settings). x) c.in-Err.fault s changes c.in-Err.ensures)

pub returns-in-Ok-changes_of : goal.returns-in-Ok-changes_of
returns-in-Ok-changes_of c =
    ap (λ m. both m (changes_in c.args.changes.now)) c.in-Ok.ensures
    ∙ ap (both (Ok c.in-Ok.settings)) c.in-Ok-changes_of.ensures.value

pub returns-in-Err-changes_of : goal.returns-in-Err-changes_of
returns-in-Err-changes_of c =
    let fault = c.in-Err-changes_of.fault in
    let changes = changes_in c.args.changes.now in
    subst (λ f. Reads (Err f) (both (settings_in c.args.settings.now) changes)) (sym c.of_changes.ensures)
    (subst (λ m. Reads (Err (of_changes fault)) (both m changes)) (sym c.in-Ok.ensures)
    (changes_refused (λ (v : Vec TimedChange Global). v.items) fault c.in-Ok.settings changes c.in-Err-changes_of.ensures.value))
