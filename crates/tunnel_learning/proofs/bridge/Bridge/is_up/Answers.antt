use Rattle.std.proofs.Common.{◌∙◌, arith}
use Rattle.tunnel_learning.proofs.BridgeLemmas.{is_up-ports}
use Rattle.tunnel_learning.proofs.bridge.Bridge.is_up.Goals as goal

pub returns-clause-value : goal.returns-clause-value
returns-clause-value c = c.is_up.ensures ∙ is_up-ports c.args.self.now.ports.now c.args.port (omega arith)
