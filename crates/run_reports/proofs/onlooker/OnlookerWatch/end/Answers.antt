use Rattle.run_counts.specs.Keeping.{Ends}
use Rattle.endpoint_core.specs.Kept.{state_of}
use Rattle.run_reports.proofs.Onlooking.{counting_one}
use Rattle.run_reports.proofs.onlooker.OnlookerWatch.end.Goals as goal

pub returns-in-Some : goal.returns-in-Some
returns-in-Some c = (c.end.ensures, counting_one (λ x y. Ends x (state_of c.args.endpoint.now) y) c.args.self.now.counts c.in-Some.counts c.end-in-Some.new.self c.in-Some.is c.end-in-Some.ensures)
