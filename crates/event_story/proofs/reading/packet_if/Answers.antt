use Rattle.std.proofs.Common.{rules, ◌≡◌, ◌∙◌, List, ℕ, drop, ap, cond, Option, Some, None}
use Rattle.std.specs.Prelude.{is_none}
use Rattle.wire.specs.First.{first}
use Rattle.wire.specs.Tag.{without_tags}
use Rattle.wire.specs.declared.ether.reason.Reason.{Reason}
use Rattle.wire.specs.Datagram.{behind_tags}
use Rattle.decapsulate.specs.Arrival.{family_named, frame_reasons, packet_at, packet_in}
use Rattle.decapsulate.proofs.PacketLemmas.{packet_of-parts}
use Rattle.event_story.proofs.reading.packet_if.Goals as goal

pub returns-in-Ok-ip_view : goal.returns-in-Ok-ip_view
returns-in-Ok-ip_view c =
    let b = c.args.octets.now in
    let typed = c.skip_tags.result.1.now in
    let view : c.in-Ok.frame ≡ b = c.in-Ok.ensures.whole in
    let typed_is : typed ≡ behind_tags b = c.skip_tags.ensures.rest ∙ ap (λ (x : List ℕ). without_tags 2 (drop 12 x)) view in
    let packet : c.of.result ≡ packet_in b =
    c.of.ensures
    ∙ packet_of-parts (family_named typed) (drop 2 typed) _ _ c.in-Ok-ip_view.ensures.family c.in-Ok-ip_view.ensures.parts c.in-Ok-ip_view.ensures.split
    ∙ ap (λ (x : List ℕ). packet_at (family_named x) (drop 2 x)) typed_is in
    let none : None ≡ first (frame_reasons b) = search rules in
    ap Some packet ∙ ap (λ (o : Option Reason). cond (is_none o) (Some (packet_in b)) None) none
