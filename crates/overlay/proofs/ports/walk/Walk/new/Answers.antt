use Rattle.std.proofs.Common.{arith}
use Rattle.overlay.proofs.WalkLemmas.{start}
use Rattle.overlay.proofs.ports.walk.Walk.new.Goals as goal

pub invariant_of-result : goal.invariant_of-result
invariant_of-result c = (start c.args.words.now c.args.vid c.members_word.result c.members_word.ensures, omega arith, omega arith, c.requires)
