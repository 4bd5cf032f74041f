use Rattle.pcap.proofs.Parts.{part_of_all}
use Rattle.pcap.proofs.stream.write.write_parts.Goals as goal

pub returns-in_default-clause-err : goal.returns-in_default-clause-err
returns-in_default-clause-err g c =
    part_of_all _ _ _ (λ part. part.now) c.args.parts.now c.loop-part.part-index _ c.loop-part-test.true c.loop-part.invariant.appended c.in_default.ensures.err
