use Rattle.std.proofs.Common.{arith}
use Rattle.fabric_ways.proofs.MemberLemmas.{same_lists}
use Rattle.fabric_ways.proofs.member.is_same.Goals as goal

pub returns : goal.returns
returns c = λ _. same_lists c.args.one.now c.args.other.now (omega arith) (λ k b. c.loop-place.invariant k (omega arith))
