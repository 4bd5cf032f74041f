use Rattle.tenants_apart.proofs.Lone.{replies-single}
use Rattle.tenants_apart.proofs.Single.{events-single, answers-single, leaving-single, lines-single}
use Rattle.tenants_apart.proofs.laws.single.Goals as goal

pub returns : goal.returns
returns c = record { replies = replies-single; events = events-single; answers = answers-single; leaving = leaving-single; told = lines-single }
