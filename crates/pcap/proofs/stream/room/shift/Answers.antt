use Rattle.std.proofs.Common.{◌∙◌, ◌-◌, ap, take}
use Rattle.pcap.proofs.Blocks.{shifted}
use Rattle.pcap.proofs.stream.room.shift.Goals as goal

pub returns-clause-front : goal.returns-clause-front
returns-clause-front c =
    ap (take (c.args.held - c.args.count)) c.copy_within.ensures.after ∙ shifted c.args.octets.now c.args.count c.args.held c.requires.order c.requires.fits
