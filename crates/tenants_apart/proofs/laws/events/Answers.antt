use Rattle.tenants_apart.proofs.Events.{answers-alike, leaving-alike, lines-alike}
use Rattle.tenants_apart.proofs.laws.events.Goals as goal

pub returns : goal.returns
returns c = record { answers = answers-alike; leaving = leaving-alike; told = lines-alike }
