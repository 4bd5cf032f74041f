use Rattle.std.proofs.Common.{arith, ◌≡◌, ◌+◌, ℕ, ap, ◌∙◌}
use Rattle.wire.proofs.OctetsLemmas.{field-slice}
use Rattle.wire.specs.IpParts.{cut}
use Rattle.wire.specs.Ip.{Ip6, packet_length, packet_parts, SplitsIp}
use Rattle.wire.proofs.IpLemmas.{IsGood6-to, split-as}
use Rattle.wire.proofs.ip_udp.ip6_view.Ip6View.read.Goals as goal

end_is : (c : goal.After-cut-slices) → 40 + c.from-end.result ≡ packet_length Ip6 c.args.octets.now
end_is c = ap (λ (n : ℕ). 40 + n) (c.from-end.ensures ∙ c.read_u16.ensures ∙ field-slice 2 4 c.args.octets.now)

parts : (c : goal.After-cut-slices) → c.cut-slices.result ≡ packet_parts Ip6 c.args.octets.now
parts c = c.cut-slices.ensures ∙ ap (λ (m : ℕ). cut 40 m c.args.octets.now) (end_is c)

split : (c : goal.After-cut-slices) → SplitsIp Ip6 c.args.octets.now c.cut-slices.result
split c =
    let end = end_is c in
    split-as Ip6 c.args.octets.now _ (IsGood6-to c.args.octets.now (record { room = omega arith; version_is = omega arith; there = omega arith })) (parts c)

pub invariant_of-result : goal.invariant_of-result
invariant_of-result c = (split c).header

pub returns-clause-parts : goal.returns-clause-parts
returns-clause-parts c = parts c

pub returns-clause-split : goal.returns-clause-split
returns-clause-split c = split c
