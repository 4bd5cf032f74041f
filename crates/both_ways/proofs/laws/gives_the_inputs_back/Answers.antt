use Rattle.both_ways.proofs.Inputs.{gives_the_inputs_back, runs_the_same}
use Rattle.both_ways.proofs.laws.gives_the_inputs_back.Goals as goal

pub returns-clause-inputs : goal.returns-clause-inputs
returns-clause-inputs c = gives_the_inputs_back

pub returns-clause-run : goal.returns-clause-run
returns-clause-run c = runs_the_same
