use Rattle.std.proofs.Common.{◌∙◌}
use Rattle.std.specs.Cmp.Lexicographic.{texts_ties}
use Rattle.endpoint_core.proofs.state.state.foresight.is_same.Goals as goal

pub returns : goal.returns
returns c = c.eq.ensures ∙ texts_ties c.args.left c.args.right
