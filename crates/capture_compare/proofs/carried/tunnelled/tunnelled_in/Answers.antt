use Rattle.std.proofs.Common.{ap, arith, length}
use Rattle.decapsulate.specs.Arrival.{Packet}
use Rattle.capture_compare.proofs.Lengths.{payload-short, shorter}
use Rattle.capture_compare.proofs.carried.tunnelled.tunnelled_in.Goals as goal

pub returns-in-Ok-clause-short : goal.returns-in-Ok-clause-short
returns-in-Ok-clause-short c =
    let b = c.args.octets.now in
    let same = ap (λ (p : Packet). length p.payload) c.in-Ok.ensures.packet in
    shorter c.carried_in.result (length c.in-Ok.packet.payload) (length b) (omega (arith, same, payload-short b)) c.carried_in.ensures.short
