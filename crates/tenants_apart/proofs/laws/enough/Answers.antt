use Rattle.tenants_apart.proofs.Enough.{enough-for, part-same}
use Rattle.tenants_apart.proofs.laws.enough.Goals as goal

pub returns : goal.returns
returns c = record { of_all = enough-for; agree = part-same }
