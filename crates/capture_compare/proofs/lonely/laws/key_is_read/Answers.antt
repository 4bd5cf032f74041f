use Rattle.capture_compare.proofs.KeyBack.{key-is-read, others-are-not}
use Rattle.capture_compare.proofs.lonely.laws.key_is_read.Goals as goal

pub returns-clause-read : goal.returns-clause-read
returns-clause-read c = key-is-read

pub returns-clause-others : goal.returns-clause-others
returns-clause-others c = others-are-not
