use Rattle.std.proofs.Common.{◌≡◌, ◌∙◌, ap, false, ℕ, List, [], ◌∷◌, ◌++◌, take, drop, bytes_eq, refl, arith, rules}
use Rattle.std.proofs.lemmas.Slice.Eq.{bytes_eq-Decides}
use Rattle.std.specs.Net.Addr.{octets_of}
use Rattle.std.specs.Net.Text.{ipv4_text, ipv6_text}
use Rattle.packet_layers.specs.Text.{ip4_text, ip6_text}
use Rattle.packet_layers.proofs.TextLemmas.{put_after}
use Rattle.packet_layers.proofs.words.lines.Lines.put_ip6.Goals as goal

pub returns-in-Some-clause-text : goal.returns-in-Some-clause-text
unfolding ip6_text ip4_text ipv6_text
returns-in-Some-clause-text c =
    let segments = c.from_octets-address.result.segments in
    let mapped = (bytes_eq-Decides _ _).1 (c.in-Some.ensures.found.0 refl) in
    let low : c.octets.result ≡ octets_of (drop 6 segments) = c.octets.ensures ∙ c.in-Some.ensures.value in
    let put = put_after _ _ _ _ _ c.put_text.ensures.text (c.put_ip4.ensures.text ∙ ap (λ (b : List ℕ). c.put_text.new.self ++ ipv4_text b) low) in
    rw (← c.from_octets-address.ensures, mapped) put

pub returns-in-None-clause-text : goal.returns-in-None-clause-text
unfolding ip6_text ipv6_text
returns-in-None-clause-text c =
    let segments = c.from_octets-address.result.segments in
    let other : bytes_eq (take 6 segments) (0 ∷ 0 ∷ 0 ∷ 0 ∷ 0 ∷ 0xffff ∷ []) ≡ false =
    grind (arith, bytes_eq-Decides (take 6 segments) (0 ∷ 0 ∷ 0 ∷ 0 ∷ 0 ∷ 0xffff ∷ []), c.in-None.ensures.found) in
    rw (← c.from_octets-address.ensures, other) (search rules)
