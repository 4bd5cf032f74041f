use Rattle.tenants_apart.proofs.Captures.{records-alike, told-alike, replies-told}
use Rattle.tenants_apart.proofs.Told.{part-told}
use Rattle.tenants_apart.proofs.laws.captures.Goals as goal

pub returns : goal.returns
returns c = record { records = records-alike; told = told-alike; begins = part-told; replies = replies-told }
