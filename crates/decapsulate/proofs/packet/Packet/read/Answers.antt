use Rattle.std.proofs.Common.{◌≡◌, ◌∙◌, List, ℕ, drop, ap}
use Rattle.wire.specs.Tag.{without_tags}
use Rattle.wire.specs.Datagram.{behind_tags}
use Rattle.decapsulate.specs.Arrival.{family_named, packet_at}
use Rattle.decapsulate.proofs.PacketLemmas.{packet_of-parts}
use Rattle.decapsulate.proofs.packet.Packet.read.Goals as goal

pub returns-in-Ok-ip_view-clause-packet : goal.returns-in-Ok-ip_view-clause-packet
returns-in-Ok-ip_view-clause-packet c =
    let b = c.args.octets.now in
    let typed = c.skip_tags.result.1.now in
    let view : c.in-Ok.frame ≡ b = c.in-Ok.ensures.whole in
    let typed_is : typed ≡ behind_tags b = c.skip_tags.ensures.rest ∙ ap (λ (x : List ℕ). without_tags 2 (drop 12 x)) view in
    c.of.ensures
    ∙ packet_of-parts (family_named typed) (drop 2 typed) _ _ c.in-Ok-ip_view.ensures.family c.in-Ok-ip_view.ensures.parts c.in-Ok-ip_view.ensures.split
    ∙ ap (λ (x : List ℕ). packet_at (family_named x) (drop 2 x)) typed_is
