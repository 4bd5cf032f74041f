use Rattle.std.proofs.Common.{refl, sym}
use Rattle.pcapng_input.proofs.Written.{put_whole}
use Rattle.pcapng_input.proofs.classic.put_packet.Goals as goal

pub returns : goal.returns
returns c =
    put_whole c.args.packet.now c.args.out.now.items _ _ c.record_head-head.result c.packet.inside.octets.now c.packet.inside.moment _ c.packet.inside.original
    c.extend_from_slice-2.result (sym c.packet.view_is) refl c.record_head-head.ensures c.in_ok-extend_from_slice.ensures.items c.extend_from_slice-2.ensures.items
