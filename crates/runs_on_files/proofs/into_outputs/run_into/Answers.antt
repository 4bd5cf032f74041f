use Rattle.std.proofs.Common.{List, Ok, subst, sym}
use Rattle.overlay_config.specs.Change.{changes_in}
use Rattle.overlay_config.specs.Fault.{Meaning}
use Rattle.overlay_config.specs.Settings.{Settings, settings_in}
use Rattle.overlay.specs.declared.settings.change.TimedChange.{TimedChange}
use Rattle.program_files.specs.Held.{handed_on, written}
use Rattle.stream_run.specs.Sieved.{taken_with}
use Rattle.timeline.specs.declared.event.Event.{Event}
use Rattle.runs_on_files.specs.Held.{IsRunInto}
use Rattle.runs_on_files.proofs.Holding.{run_into}
use Rattle.runs_on_files.proofs.into_outputs.run_into.Goals as goal

pub returns-in-Ok-finish-clause-run : goal.returns-in-Ok-finish-clause-run
returns-in-Ok-finish-clause-run g c =
    let read = c.args.job.run in
    let files = c.in-Ok-finish.files in
    let before = c.args.captures.now in
    let after = c.run.new in
    let settings = settings_in read.settings_text.now in
    let changes = changes_in read.changes_text.now in
    let left = handed_on files.ports.items files.underlay files.decisions in
    let taken = taken_with (g.S.Sieve.taken c.args.sieve.now) in
    let IsRun = λ (t : List Event → List Event). IsRunInto t read.segments.now settings changes before.ports.items before.underlay after.captures.ports.items after.captures.underlay (written c.args.job.outputs.files) left in
    subst (λ (s : Meaning Settings). IsRun (taken s changes)) (sym c.requires.settings)
    (subst (λ (k : Meaning (List TimedChange)). IsRun (taken (Ok read.settings) k)) (sym c.requires.told)
    (run_into (taken (Ok read.settings) (Ok read.changes.now)) read.segments.now settings changes read.settings read.changes.now c.requires.settings c.requires.told
    before.ports.items before.underlay after.captures.ports.items after.captures.underlay c.args.job.outputs.files after.outputs left
    c.in-Ok.ensures.run c.in-Ok.ensures.over c.in-Ok.ensures.reached c.in-Ok-finish.ensures.kept))
