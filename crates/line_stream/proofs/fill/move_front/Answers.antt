use Rattle.std.proofs.Common.{◌∙◌, ◌-◌, ap, take}
use Rattle.pcap.proofs.Blocks.{shifted}
use Rattle.line_stream.proofs.fill.move_front.Goals as goal

pub returns-clause-moved : goal.returns-clause-moved
returns-clause-moved c =
    ap (take (c.args.ends.read - c.args.ends.line)) c.copy_within.ensures.after
    ∙ shifted c.args.room.now c.args.ends.line c.args.ends.read c.requires.line c.requires.read
