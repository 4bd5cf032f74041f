use Rattle.std.proofs.Common.{arith}
use Rattle.overlay.proofs.HopsLemmas.{length_is}
use Rattle.overlay.proofs.underlay.hops.Hops.len.Goals as goal

pub returns : goal.returns
returns c = omega (arith, c.len.ensures, c.self.inside.exceptions.ok.0, length_is c.self.inside.exceptions.items c.args.self.now c.self.invariant c.self.view_is)
