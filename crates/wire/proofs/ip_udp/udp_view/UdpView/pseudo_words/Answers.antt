use Rattle.std.proofs.Common.{rules, arith, ◌≡◌, ◌++◌, length, ◌∙◌, ap, subst}
use Rattle.std.proofs.lemmas.List.{length-append}
use Rattle.wire.specs.Octets.{field}
use Rattle.wire.proofs.OctetsLemmas.{field-slice}
use Rattle.wire.specs.Addr.{IsAddr}
use Rattle.wire.specs.IpParts.{Parts}
use Rattle.wire.specs.Udp.{IsUdpHeader}
use Rattle.wire.specs.declared.ip_udp.udp_view.UdpView.TheInside.{Inside}
use Rattle.wire.proofs.PseudoLemmas.{total-pseudo_alone}
use Rattle.wire.proofs.ip_udp.udp_view.UdpView.pseudo_words.Goals as goal

pub returns-clause-sum : goal.returns-clause-sum
returns-clause-sum c =
    let v = c.args.self.now in
    let header : IsUdpHeader v.head (length v.payload) = subst (λ (w : Parts). IsUdpHeader w.head (length w.payload)) c.self.view_is c.self.invariant in
    let datagram = v.head ++ v.payload in
    let src : IsAddr c.args.src = search rules in
    let dst : IsAddr c.args.dst = search rules in
    let told = c.from-length.ensures ∙ c.read_u16.ensures ∙ field-slice 2 4 c.self-inside.inside.0.0.head.now ∙ ap (λ (i : Inside). field 4 2 i.slices.head) c.self-inside.view_is ∙ ap (λ (w : Parts). field 4 2 w.head) c.self.view_is ∙ header.total in
    let fits = c.read_u16.type_inv in
    let octets = header.octets in
    let len : length datagram ≡ c.from-length.result = omega (arith, length-append v.head v.payload, told, octets) in
    let sums = total-pseudo_alone c.args.src c.args.dst (length datagram) src dst c.requires (omega (arith, len, fits, c.from-length.ensures)) in
    omega (arith, sums, len, c.from.ensures, c.address_words.ensures.sum, c.address_words-2.ensures.sum)
