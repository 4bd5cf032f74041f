use Rattle.std.proofs.Common.{◌≡◌, ◌∙◌, ap, subst, ℕ, List, length, ◌++◌}
use Rattle.pcapng_input.specs.Block.{Block}
use Rattle.pcapng_input.specs.BlockText.{block_text}
use Rattle.decision_objects.specs.Writing.{Tells}
use Rattle.run_view.specs.Blocks.{Packet, block_of, packet_front, packet_options, padding}
use Rattle.run_view.proofs.Telling.{packet_is}
use Rattle.run_view.proofs.teller.Teller.tell_packet.Goals as goal

pub returns : goal.returns
returns g c =
    let p = c.args.packet.now in
    let r = c.args.remark.now in
    let line : c.put_remark.new.line ≡ padding (length p.octets) ++ packet_options r =
    c.put_remark.ensures.text ∙ ap (λ (q : Packet). padding (length q.octets) ++ packet_options r) c.packet.view_is in
    subst (λ (b : Block). Tells c.args.self.now c.tell_behind.new.self (block_text b)) (packet_is p r)
    (subst (λ (t : List ℕ). Tells c.args.self.now c.tell_behind.new.self
    (block_text (block_of 6 (packet_front p.interface p.moment (length p.octets) p.original ++ (p.octets ++ t))))) line c.tell_behind.ensures)
