use Rattle.capture_compare.proofs.Keys.{key-tells, key-tells-apart}
use Rattle.capture_compare.proofs.carried.laws.key_tells.Goals as goal

pub returns-clause-same : goal.returns-clause-same
returns-clause-same c = key-tells

pub returns-clause-apart : goal.returns-clause-apart
returns-clause-apart c = key-tells-apart
