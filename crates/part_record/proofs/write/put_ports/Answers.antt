use Rattle.std.proofs.Common.{◌+◌, [], arith}
use Rattle.part_record.proofs.Turns.{put_more}
use Rattle.part_record.specs.Record.{capture_line}
use Rattle.timeline.specs.declared.source.Tap.TheVariants.{Port}
use Rattle.part_record.proofs.write.put_ports.Goals as goal

pub loop-index-preserved : goal.loop-index-preserved
loop-index-preserved c =
    put_more (λ number sum. capture_line (Port number) sum) 1 c.args.text.now.items c.loop-index.text.items c.put_port.new.text.items c.args.sums.now c.loop-index.index (c.loop-index.index + 1) [] c.loop-index-test.true (omega arith) c.loop-index.invariant c.in_ok-put_port.ensures
