use Rattle.std.proofs.Common.{◌≡◌, ◌∙◌, ◌+◌, ◌++◌, ap, sym, length, arith, ℕ, List}
use Rattle.std.proofs.lemmas.List.{length-append}
use Rattle.wire.specs.Octets.{octets}
use Rattle.wire.proofs.SumLemmas.{total-pseudo6}
use Rattle.wire.specs.Frame.{Frame, plain}
use Rattle.wire.specs.declared.ip_udp.addr.Addr.TheVariants.{V6}
use Rattle.wire.specs.OuterTemplate.{Fixed, udp_part, blank6}
use Rattle.wire.proofs.FillingLemmas.{filled6, packet6-filled, over}
use Rattle.wire.proofs.OuterSumLemmas.{sum-sent}
use Rattle.wire.proofs.TemplateLemmas.{length-part, length-plain}
use Rattle.wire.proofs.outer.template6.Template6.write.Goals as goal

pub returns : goal.returns
returns c =
    let t : Fixed = c.args.self.now in
    let f = plain c.args.frame.now in
    let b = c.self.inside.octets in
    let n : ℕ = 28 + length c.frame.inside.body.now in
    let hop6 : length t.next_hop ≡ 6 = ap (λ (x : Fixed). length x.next_hop) (sym c.self.view_is) ∙ length-part 0 6 b (omega arith) in
    let mac6 : length t.mac ≡ 6 = ap (λ (x : Fixed). length x.mac) (sym c.self.view_is) ∙ length-part 6 6 b (omega arith) in
    let src : length t.src ≡ 16 = ap (λ (x : Fixed). length x.src) (sym c.self.view_is) ∙ length-part 22 16 b (omega arith) in
    let tunnel : length t.tunnel ≡ 8 = ap (λ (x : Fixed). length x.tunnel) (sym c.self.view_is) ∙ length-part 62 8 b (omega arith) in
    let long : length f ≡ 12 + length c.frame.inside.body.now = ap (λ (g : Frame). length (plain g)) (sym c.frame.view_is) ∙ length-plain c.frame.inside.addresses.now c.frame.inside.body.now c.frame.invariant.0 in
    let len : n ≡ 8 + length (t.tunnel ++ f) = omega (arith, long, tunnel, length-append t.tunnel f) in
    let body : length c.frame.inside.body.now ≡ length c.args.frame.now.body = ap (λ (g : Frame). length g.body) c.frame.view_is in
    let dport : t.dport ≡ _ = ap (λ (x : Fixed). x.dport) (sym c.self.view_is) in
    let sum = sum-sent V6 t c.args.dst f c.args.sport c.udp_sum-sum.result c.self.inside.udp (28 + length c.args.frame.now.body) c.args.sum (λ rest len. total-pseudo6 t.src c.args.dst rest len src (omega arith)) tunnel (omega arith) (omega (arith, c.self.invariant.2, dport)) (omega (arith, long, body, c.requires.fits))
    (c.self.invariant.1 ∙ ap udp_part c.self.view_is) (omega (arith, long, body)) c.requires.sum c.udp_sum-sum.ensures in
    let copied : c.copy.new.head.items ≡ b = c.copy.ensures in
    let blank : c.as_mut_slice.result.now ≡ blank6 t = c.as_mut_slice.ensures.value ∙ copied ∙ c.self.invariant.0 ∙ ap blank6 c.self.view_is in
    let filled = c.fill.ensures.filled ∙ ap (λ (x : List ℕ). filled6 x c.args.hop (octets 2 n) c.args.dst (octets 2 c.args.sport) (octets 2 n) (octets 2 c.udp_sum-sum.result)) blank in
    ap (λ (x : List ℕ). x ++ f) (over c.fill.new.text c.copy.new.head.items (omega (arith, ap length copied, c.fill.ensures.long)) ∙ filled)
    ∙ packet6-filled t c.args.hop c.args.dst f _ c.args.sport n c.udp_sum-sum.result (omega arith) (omega arith) hop6 mac6 src tunnel len sum
