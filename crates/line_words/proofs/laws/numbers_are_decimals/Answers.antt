use Rattle.line_words.proofs.Decimals.{number_exact}
use Rattle.line_words.proofs.laws.numbers_are_decimals.Goals as goal

pub returns : goal.returns
returns c = number_exact
