use Rattle.tenants_apart.proofs.Tables.{lines-shown, tables-alike}
use Rattle.tenants_apart.proofs.laws.tables.Goals as goal

pub returns : goal.returns
returns c = record { live = tables-alike; shown = lines-shown }
