use Rattle.tenants_apart.proofs.Leaving.{leaves-well}
use Rattle.tenants_apart.proofs.laws.leaving.Goals as goal

pub returns : goal.returns
returns c = leaves-well
