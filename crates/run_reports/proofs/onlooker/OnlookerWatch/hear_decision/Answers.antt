use Rattle.run_counts.specs.Keeping.{Expects}
use Rattle.run_reports.proofs.Onlooking.{counting_more}
use Rattle.run_reports.proofs.onlooker.OnlookerWatch.hear_decision.Goals as goal

pub returns-in-Some : goal.returns-in-Some
returns-in-Some c before d h = (h.0, counting_more (λ x y. Expects x d y) _ before.counts c.args.self.now.counts c.in-Some.counts c.hear_decision.new.self c.in-Some.is h.1 (λ k e. c.hear_decision.ensures k d e))
