use Rattle.std.proofs.Common.{◌≡◌, refl, List, Ok, Err, subst}
use Rattle.overlay_config.specs.Change.{changes_in}
use Rattle.overlay_config.specs.Fault.{Meaning}
use Rattle.overlay_config.specs.Settings.{Settings, settings_in}
use Rattle.overlay.specs.declared.settings.change.TimedChange.{TimedChange}
use Rattle.timeline.specs.declared.event.Event.{Event}
use Rattle.stream_run.specs.Sieved.{all_taken, taken_with}
use Rattle.runs_on_files.specs.Files.{IsRunOnFiles, segments_run}
use Rattle.runs_in_memory.specs.Memory.{file_holds, file_left, input_left}
use Rattle.runs_in_memory.proofs.Leaving.{memory_leaves, where_done, where_named}
use Rattle.runs_in_memory.proofs.runs.run_in_memory.Goals as goal

-- where each event is taken in, whatever the texts mean
all_with : (settings : Meaning Settings) (changes : Meaning (List TimedChange)) → taken_with (λ S changes. all_taken) settings changes ≡ all_taken
all_with (Ok s) (Ok changes) = refl
all_with (Ok s) (Err fault) = refl
all_with (Err fault) changes = refl

pub returns : goal.returns
returns g c =
    let job = c.args.job in
    let texts = job.texts.now in
    let segments = segments_run job.scope in
    let settings = settings_in texts.settings.items in
    let changes = changes_in texts.changes.items in
    let ports = job.names.ports.now in
    let underlay = job.names.underlay.now in
    let IsRun = λ (taken : List Event → List Event). IsRunOnFiles file_left input_left file_holds taken segments settings changes ports underlay in
    record {
      run = where_done _ _ c.run_on_files.result
          (λ _. where_named job.folder (λ run. memory_leaves all_taken segments settings changes ports underlay (subst IsRun (all_with settings changes) run)))
          c.run_on_files.ensures.run;
    }
