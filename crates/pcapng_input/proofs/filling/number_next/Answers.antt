use Rattle.std.proofs.Common.{arith}
use Rattle.pcapng_input.proofs.Advance.{number_of_next}
use Rattle.pcapng_input.proofs.filling.number_next.Goals as goal

pub returns-clause-number : goal.returns-clause-number
returns-clause-number g c =
    number_of_next c.args.order c.args.gathered.now c.number.gathered c.clear.new.self c.held.result.now c.held-2.result.now c.number4-number.result
    c.number.invariant.behind c.number.invariant.few c.number.invariant.less c.held.ensures.octets (omega (arith, c.number-test.false)) c.number4-number.ensures
    c.held-2.ensures.octets c.clear.ensures
