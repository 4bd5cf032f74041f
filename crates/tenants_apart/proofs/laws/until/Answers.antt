use Rattle.tenants_apart.proofs.Until.{agree-until, captures-until}
use Rattle.tenants_apart.proofs.laws.until.Goals as goal

pub returns : goal.returns
returns c = record { events = agree-until; captures = captures-until }
