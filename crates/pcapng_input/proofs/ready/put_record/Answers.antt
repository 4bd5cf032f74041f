use Rattle.std.proofs.Common.{Ok, refl, sym, take}
use Rattle.pcapng_input.proofs.Written.{put_whole}
use Rattle.pcapng_input.proofs.ready.put_record.Goals as goal

pub returns-clause-text : goal.returns-clause-text
returns-clause-text c =
    put_whole {E = Unit {0}} c.args.packet.now (take c.args.at c.args.room.now) (take c.put_behind-middle.result c.put_behind-middle.new.room)
    (take c.put_behind.result c.put_behind.new.room) c.record_head-header.result c.packet.inside.octets.now c.packet.inside.moment _ c.packet.inside.original (Ok tt)
    (sym c.packet.view_is) refl c.record_head-header.ensures c.put_behind-middle.ensures.text c.put_behind.ensures.text
