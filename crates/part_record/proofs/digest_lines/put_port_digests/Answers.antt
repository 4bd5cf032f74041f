use Rattle.std.proofs.Common.{◌+◌, arith}
use Rattle.part_record.proofs.Turns.{put_more}
use Rattle.part_record.specs.Digests.{port_line}
use Rattle.part_record.proofs.digest_lines.put_port_digests.Goals as goal

pub loop-index-preserved : goal.loop-index-preserved
loop-index-preserved c =
    put_more port_line 1 c.args.text.now.items c.loop-index.text.items c.put_port_digest.new.text.items c.args.digests.now c.loop-index.index (c.loop-index.index + 1) _ c.loop-index-test.true (omega arith) c.loop-index.invariant c.in_ok-put_port_digest.ensures
