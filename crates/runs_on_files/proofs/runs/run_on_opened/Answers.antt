use Rattle.runs_on_files.proofs.Holding.{where_named}
use Rattle.runs_on_files.proofs.runs.run_on_opened.Goals as goal

pub returns-in-Ok-done_on : goal.returns-in-Ok-done_on
returns-in-Ok-done_on g c =
    let after = c.run_on_captures.new.captures in
    record {
      run = where_named c.args.job.folder (λ h. (after.ports.items, after.underlay, h)) c.in-Ok.ensures.run;
    }
