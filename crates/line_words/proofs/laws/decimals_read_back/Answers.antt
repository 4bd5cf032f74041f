use Rattle.line_words.proofs.Decimals.{number_decimal}
use Rattle.line_words.proofs.laws.decimals_read_back.Goals as goal

pub returns : goal.returns
returns c = number_decimal
