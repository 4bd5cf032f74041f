use Rattle.std.proofs.Common.{arith, ◌≡◌, ℕ, ap, ◌∙◌}
use Rattle.wire.proofs.OctetsLemmas.{field-slice}
use Rattle.wire.specs.IpParts.{cut}
use Rattle.wire.specs.Udp.{SplitsUdp, udp_length, udp_parts}
use Rattle.wire.proofs.UdpLemmas.{IsGoodUdp-to, split-as}
use Rattle.wire.proofs.ip_udp.udp_view.UdpView.read.Goals as goal

end_is : (c : goal.After-cut-slices) → c.from-end.result ≡ udp_length c.args.octets.now
end_is c = c.from-end.ensures ∙ c.read_u16.ensures ∙ field-slice 2 4 c.args.octets.now

parts : (c : goal.After-cut-slices) → c.cut-slices.result ≡ udp_parts c.args.octets.now
parts c = c.cut-slices.ensures ∙ ap (λ (m : ℕ). cut 8 m c.args.octets.now) (end_is c)

split : (c : goal.After-cut-slices) → SplitsUdp c.args.octets.now c.cut-slices.result
split c =
    let end = end_is c in
    split-as c.args.octets.now _ (IsGoodUdp-to c.args.octets.now (record { room = omega arith; behind = omega arith; there = omega arith })) (parts c)

pub invariant_of-result : goal.invariant_of-result
invariant_of-result c = (split c).header

pub returns-clause-parts : goal.returns-clause-parts
returns-clause-parts c = parts c

pub returns-clause-split : goal.returns-clause-split
returns-clause-split c = split c
