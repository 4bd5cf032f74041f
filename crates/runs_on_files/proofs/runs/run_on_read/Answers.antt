use Rattle.std.proofs.Common.{ℕ, List, subst}
use Rattle.overlay_config.specs.Change.{changes_in}
use Rattle.overlay_config.specs.Settings.{settings_in}
use Rattle.program_files.specs.Held.{Held, handed_on, written}
use Rattle.segment_set.specs.Segments.{Segments}
use Rattle.stream_run.specs.Sieved.{taken_with}
use Rattle.runs_on_files.specs.Files.{segments_run}
use Rattle.runs_on_files.specs.Held.{IsRunInto}
use Rattle.runs_on_files.proofs.Holding.{if_some}
use Rattle.runs_on_files.proofs.runs.run_on_read.Goals as goal

pub returns-in-Ok-run_into : goal.returns-in-Ok-run_into
returns-in-Ok-run_into g c =
    let job = c.args.read.job in
    let texts = job.texts.now in
    let outputs = c.in-Ok.outputs in
    let files = c.in-Ok-run_into.files in
    let before = c.args.captures.now in
    let after = c.run_into.new.captures in
    let held = written outputs.files in
    let left = handed_on files.ports.items files.underlay files.decisions in
    let IsRun = λ (segments : Segments) (s t : List ℕ). IsRunInto (taken_with (g.S.Sieve.taken c.args.sieve.now) (settings_in s) (changes_in t)) segments (settings_in s) (changes_in t) before.ports.items before.underlay after.ports.items after.underlay held left in
    let segments = c.segments_in.result.now in
    let settings = c.as_slice.result.now in
    let run : IsRun (segments_run job.scope) texts.settings.items texts.changes.items =
    subst (λ (k : Segments). IsRun k texts.settings.items texts.changes.items) c.segments_in.ensures
    (subst (λ (s : List ℕ). IsRun segments s texts.changes.items) c.as_slice.ensures.value
    (subst (λ (t : List ℕ). IsRun segments settings t) c.as_slice-2.ensures.value c.in-Ok-run_into.ensures.run)) in
    record {
      run = if_some job.folder (record {
        before = held;
        behind = left;
        stood = c.in-Ok.ensures.in_files;
        stand = c.in-Ok-run_into.ensures.in_files;
        run = run;
      });
    }
