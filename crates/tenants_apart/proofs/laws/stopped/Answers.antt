use Rattle.tenants_apart.proofs.Stopped.{leaving-stopped, lines-stopped}
use Rattle.tenants_apart.proofs.laws.stopped.Goals as goal

pub returns : goal.returns
returns c = record { leaving = leaving-stopped; told = lines-stopped }
