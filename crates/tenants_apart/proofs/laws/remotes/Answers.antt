use Rattle.tenants_apart.proofs.Reaching.{all-reached}
use Rattle.tenants_apart.proofs.laws.remotes.Goals as goal

pub returns : goal.returns
returns c = all-reached
