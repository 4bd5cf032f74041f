use Rattle.std.proofs.Common.{◌≡◌, ap, subst, ℕ, List, length, ◌+◌, ◌++◌, length-append, arith}
use Rattle.pcapng_input.specs.BlockText.{block_text}
use Rattle.decision_objects.specs.Writing.{Tells}
use Rattle.decision_objects.proofs.Growing.{tells_more}
use Rattle.run_view.specs.Blocks.{Packet, block_of, packet_front}
use Rattle.run_view.proofs.Lengths.{length-front, packet_told}
use Rattle.run_view.proofs.teller.Teller.tell_behind.Goals as goal

pub returns : goal.returns
returns g c =
    let octets = c.packet.inside.octets.now in
    let line = c.args.line.now in
    let size = 32 + length octets + length c.text.result.now in
    let known = packet_front c.packet.inside.interface c.packet.inside.moment (length octets) c.packet.inside.original in
    let size_is : size ≡ 12 + length (known ++ (octets ++ line)) =
    omega (
      arith,
      ap (λ (t : List ℕ). length t) c.text.ensures.value,
      length-append known (octets ++ line),
      length-append octets line,
      length-front c.packet.inside.interface c.packet.inside.moment (length octets) c.packet.inside.original,
    ) in
    subst (λ (p : Packet). Tells c.args.self.now c.tell-2.new.self
    (block_text (block_of 6 (packet_front p.interface p.moment (length p.octets) p.original ++ (p.octets ++ line))))) c.packet.view_is
    (subst (λ (t : List ℕ). Tells c.args.self.now c.tell-2.new.self t)
    (packet_told 6 size c.block_front.result c.packet_front-head.result known octets line c.put_four.new.line c.text-2.result.now c.block_front.ensures
    c.packet_front-head.ensures c.put_four.ensures.text c.text-2.ensures.value size_is)
    (tells_more c.args.self.now c.tell.new.self c.tell-2.new.self (c.block_front.result ++ (c.packet_front-head.result ++ octets)) c.text-2.result.now c.tell.ensures c.tell-2.ensures))
