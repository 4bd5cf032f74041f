use Rattle.std.proofs.Common.{arith, length, ap}
use Rattle.wire.proofs.OptionsLemmas.{options_in-few}
use Rattle.wire.proofs.geneve.view.GeneveView.options.Goals as goal

pub returns-clause-few : goal.returns-clause-few
returns-clause-few c = omega (arith, options_in-few c.self.inside.options.now, ap length c.of.ensures, c.self.invariant.1)
