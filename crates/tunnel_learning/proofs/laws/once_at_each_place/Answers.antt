use Rattle.tunnel_learning.proofs.OnceLemmas.{once}
use Rattle.tunnel_learning.proofs.laws.once_at_each_place.Goals as goal

pub returns : goal.returns
returns c = once
