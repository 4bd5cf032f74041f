use Rattle.std.proofs.Common.{◌∙◌, ap, sym, subst, [], Ok, Err}
use Rattle.overlay_config.specs.Settings.{settings_in}
use Rattle.timeline.specs.Timeline.{told}
use Rattle.capture_run.specs.Fault.{of_timeline}
use Rattle.explanation.specs.Explanation.{Gives, explained_run, by_timeline}
use Rattle.explanation.proofs.Faults.{settings_fault, timeline_fault}
use Rattle.explanation.proofs.packets.explain_bytes.Goals as goal

pub returns-in-Err : goal.returns-in-Err
returns-in-Err c =
    let s = settings_in c.args.settings.now in
    subst (λ f. Gives (Err f) (explained_run s c.args.capture.now c.args.depth c.args.values)) (sym c.of_settings.ensures)
    (settings_fault c.in-Err.fault s c.args.capture.now c.args.depth c.args.values c.in-Err.ensures)

pub returns-in-Err-read : goal.returns-in-Err-read
returns-in-Err-read c =
    let capture = c.args.capture.now in
    subst (λ f. Gives (Err f) (explained_run (settings_in c.args.settings.now) capture c.args.depth c.args.values)) (sym c.of_captures.ensures)
    (subst (Gives (Err (of_timeline c.in-Err-read.fault)))
    (sym (ap (λ m. explained_run m capture c.args.depth c.args.values) c.in-Ok.ensures))
    (timeline_fault c.in-Err-read.fault c.in-Ok.settings c.args.depth c.args.values (told [] [] capture) c.in-Err-read.ensures.told))

pub returns : goal.returns
returns c =
    ap (λ m. explained_run m c.args.capture.now c.args.depth c.args.values) c.in-Ok.ensures
    ∙ ap (by_timeline c.in-Ok.settings c.args.depth c.args.values) c.in-Ok-read.ensures.told
    ∙ ap Ok (sym c.in_ok-explanation_of.ensures)
