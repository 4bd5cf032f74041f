use Rattle.std.proofs.Common.{◌≡◌, ℕ, take}
use Rattle.endpoint_core.specs.Learning.{learns, tells_learning}
use Rattle.endpoint_core.proofs.state.learning.Learning.open.Given as goal

abbrev pub invariant-loop-rule : goal.invariant-loop-rule
invariant-loop-rule l = (vid : ℕ) → learns l.learning vid ≡ tells_learning (take l.rule-index l.rules) vid
