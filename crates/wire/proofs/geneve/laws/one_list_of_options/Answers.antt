use Rattle.wire.proofs.OptionsLemmas.{texts-options_in, options_in-texts}
use Rattle.wire.proofs.geneve.laws.one_list_of_options.Goals as goal

pub returns-clause-found : goal.returns-clause-found
returns-clause-found c = texts-options_in

pub returns-clause-only : goal.returns-clause-only
returns-clause-only c = options_in-texts
