use Rattle.std.proofs.Common.{◌∙◌, ◌++◌, List, ℕ, decimal, ap}
use Rattle.std.specs.Prelude.{codes}
use Rattle.wire.specs.Octets.{octet, part}
use Rattle.packet_layers.specs.Text.{ip6_text}
use Rattle.packet_layers.proofs.TextLemmas.{put_after, put_field}
use Rattle.packet_layers.proofs.words.lines.Lines.put_ip6_ends.Goals as goal

pub returns-clause-text : goal.returns-clause-text
returns-clause-text c =
    let old = c.args.self.now in
    let head = c.args.head.now in
    let source = c.put_ip6.ensures.text ∙ ap (λ (b : List ℕ). c.put_text.new.self ++ ip6_text b) c.array_at.ensures in
    let destination = c.put_ip6-2.ensures.text ∙ ap (λ (b : List ℕ). c.put_text-2.new.self ++ ip6_text b) c.array_at-2.ensures in
    let limit = c.put_field.ensures.text ∙ ap (λ (n : ℕ). c.put_ip6-2.new.self ++ (codes " hop-limit " ++ decimal n)) c.from.ensures in
    let from : List ℕ = codes " " ++ ip6_text (part 8 16 head) in
    let to : List ℕ = ip6_text (part 24 16 head) in
    let first = put_after old c.put_text.new.self c.put_ip6.new.self (codes " ") (ip6_text (part 8 16 head)) c.put_text.ensures.text source in
    let second = put_after old c.put_ip6.new.self c.put_text-2.new.self from (codes " > ") first c.put_text-2.ensures.text in
    let ends = put_after old c.put_text-2.new.self c.put_ip6-2.new.self (from ++ codes " > ") to second destination in
    put_field old c.put_ip6-2.new.self c.put_field.new.self (from ++ codes " > " ++ to) (codes " hop-limit ") (decimal (octet 7 head)) ends limit
