use Rattle.std.proofs.Common.{[]}
use Rattle.endpoint_core.specs.Step.{opened}
use Rattle.endpoint_core.proofs.Runs.{answers-decisions, moment-run, bridges-run}
use Rattle.endpoint_core.proofs.Tallies.{counts-tally}
use Rattle.endpoint_core.proofs.laws.runs.Goals as goal

pub returns : goal.returns
returns c = record {
  answers = λ S es rising. answers-decisions S [] es rising;
  counts = λ S es rising. counts-tally S es rising;
  moment = λ S es. moment-run (opened S) es;
  bridges = λ S es rising. bridges-run S es rising;
}
