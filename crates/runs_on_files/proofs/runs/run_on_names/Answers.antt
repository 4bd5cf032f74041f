use Rattle.runs_on_files.proofs.Holding.{where_done}
use Rattle.runs_on_files.proofs.runs.run_on_names.Goals as goal

pub returns : goal.returns
returns g c = record {
  run = where_done c.run_on_opened.result c.args.job.folder
      (λ h. record {
        ports = c.in-Ok-open_captures.ports.items;
        underlay = c.in-Ok.underlay;
        new_ports = h.0;
        new_underlay = h.1;
        opened = c.in-Ok-open_captures.ensures.told;
        opened_underlay = c.in-Ok.ensures.told;
        run = h.2;
      })
      c.run_on_opened.ensures.run;
}
