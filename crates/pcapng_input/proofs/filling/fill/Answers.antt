use Rattle.pcapng_input.proofs.Advance.{long_leads, long_passes}
use Rattle.pcapng_input.proofs.filling.fill.Goals as goal

pub returns-in-Long-clause-filled : goal.returns-in-Long-clause-filled
returns-in-Long-clause-filled g c =
    long_leads c.args.section c.args.gathered.now c.filling.gathered c.pass_over.new.gathered c.in-Long.order c.in-Long.size c.held.result.now c.pass_over.result
    c.filling.invariant.same c.held.ensures.octets c.in-Long.ensures c.pass_over.ensures.passed

pub returns-in-Long-clause-passed : goal.returns-in-Long-clause-passed
returns-in-Long-clause-passed g c =
    long_passes c.args.section c.filling.gathered c.pass_over.new.gathered c.in-Long.order c.in-Long.size c.held.result.now c.pass_over.result
    c.in-Long.ensures c.pass_over.ensures.passed
