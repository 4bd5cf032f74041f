use Rattle.tenants_apart.proofs.Events.{answers-front, leaving-front, lines-front}
use Rattle.tenants_apart.proofs.laws.fronts.Goals as goal

pub returns : goal.returns
returns c = record { answers = answers-front; leaving = leaving-front; told = lines-front }
