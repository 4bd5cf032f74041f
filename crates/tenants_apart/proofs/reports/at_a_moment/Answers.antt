use Rattle.tenants_apart.proofs.ToldReports.{tables-told, own-lines}
use Rattle.tenants_apart.proofs.reports.at_a_moment.Goals as goal

pub returns : goal.returns
returns c = record { told = λ S changes es moment up. tables-told changes moment S es up; own = own-lines }
