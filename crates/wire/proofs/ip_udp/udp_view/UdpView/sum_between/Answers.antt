use Rattle.std.proofs.Common.{rules, arith, ◌≡◌, ◌+◌, ◌++◌, ◌∙◌, length, sym, ap}
use Rattle.wire.specs.Sum.{total, folded}
use Rattle.wire.proofs.FoldLemmas.{folded-added}
use Rattle.wire.proofs.SumLemmas.{total-append_even}
use Rattle.wire.specs.Addr.{IsAddr}
use Rattle.wire.specs.IpParts.{Parts}
use Rattle.wire.specs.Udp.{pseudo}
use Rattle.wire.specs.declared.ip_udp.udp_view.UdpView.TheInside.{Inside}
use Rattle.wire.proofs.PseudoLemmas.{total-behind_pseudo}
use Rattle.wire.proofs.ip_udp.udp_view.UdpView.sum_between.Goals as goal

pub returns : goal.returns
returns c =
    let v = c.args.self.now in
    let datagram = v.head ++ v.payload in
    let src : IsAddr c.args.src = search rules in
    let dst : IsAddr c.args.dst = search rules in
    let octets : length v.head ≡ 8 = ap (λ (w : Parts). length w.head) (sym c.self.view_is) ∙ c.self.invariant.octets in
    let head : c.words.result ≡ total v.head = c.words.ensures.sum ∙ ap (λ (i : Inside). total i.slices.head) c.self-inside.view_is ∙ ap (λ (w : Parts). total w.head) c.self.view_is in
    let payload : c.folded.result ≡ folded (total v.payload) = c.folded.ensures ∙ ap (λ (i : Inside). folded (total i.slices.payload)) c.self-inside.view_is ∙ ap (λ (w : Parts). folded (total w.payload)) c.self.view_is in
    let front = c.pseudo_words-pseudo.result + c.words.result in
    let whole : front + total v.payload ≡ total (pseudo c.args.src c.args.dst (length datagram) ++ datagram) =
    omega (arith, head, c.pseudo_words-pseudo.ensures.sum, total-behind_pseudo c.args.src c.args.dst (length datagram) datagram src dst, total-append_even v.head v.payload (omega (arith, octets))) in
    rw (c.fold.ensures, c.from.ensures, payload) (folded-added front (total v.payload) ∙ ap folded whole)
