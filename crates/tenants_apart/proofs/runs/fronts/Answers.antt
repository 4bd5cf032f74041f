use Rattle.tenants_apart.proofs.LeftRuns.{records-fronts, lines-fronts}
use Rattle.tenants_apart.proofs.runs.fronts.Goals as goal

pub returns : goal.returns
returns c = record { records = records-fronts; told = lines-fronts }
