use Rattle.std.proofs.Common.{◌≡◌, ◌∙◌, ◌++◌, ℕ, decimal, ap}
use Rattle.std.specs.Prelude.{codes}
use Rattle.wire.specs.Octets.{octet}
use Rattle.wire.specs.Ip.{payload_length}
use Rattle.packet_layers.proofs.TextLemmas.{put_field}
use Rattle.packet_layers.proofs.words.lines.Lines.put_ip6_fields.Goals as goal

pub returns-clause-text : goal.returns-clause-text
returns-clause-text c =
    let head = c.args.head.now in
    let told : c.field_at.result ≡ payload_length head = c.field_at.ensures in
    let length = c.put_field.ensures.text ∙ ap (λ (n : ℕ). c.args.self.now ++ (codes " length " ++ decimal n)) told in
    let next = c.put_field-2.ensures.text ∙ ap (λ (n : ℕ). c.put_field.new.self ++ (codes " next-header " ++ decimal n)) c.from.ensures in
    put_field c.args.self.now c.put_field.new.self c.put_field-2.new.self (codes " length " ++ decimal (payload_length head)) (codes " next-header ") (decimal (octet 6 head)) length next
