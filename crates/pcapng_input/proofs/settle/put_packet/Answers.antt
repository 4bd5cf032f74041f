use Rattle.std.proofs.Common.{refl, sym}
use Rattle.pcapng_input.proofs.Written.{record_whole}
use Rattle.pcapng_input.proofs.settle.put_packet.Goals as goal

pub returns-clause-ok : goal.returns-clause-ok
returns-clause-ok c =
    record_whole c.args.packet.now c.put_record.new.self c.record_head-header.result c.packet.inside.octets.now c.packet.inside.moment _ c.packet.inside.original c.put_record.result
    (sym c.packet.view_is) refl c.record_head-header.ensures c.put_record.ensures.ok
