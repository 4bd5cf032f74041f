use Rattle.std.proofs.Common.{arith, ◌≡◌, ◌*◌, ℕ, ap, ◌∙◌}
use Rattle.wire.proofs.OctetsLemmas.{field-slice}
use Rattle.wire.specs.IpParts.{cut}
use Rattle.wire.specs.Ip.{Ip4, header_length, total_length, packet_parts}
use Rattle.wire.proofs.IpLemmas.{IsGood4-to, split-as}
use Rattle.wire.proofs.ip_udp.ip4_view.Ip4View.read.Goals as goal

header_is : (c : goal.After-cut-slices) → c.from-header.result * 4 ≡ header_length Ip4 c.args.octets.now
header_is c = omega arith

total_is : (c : goal.After-cut-slices) → c.from-total.result ≡ total_length c.args.octets.now
total_is c = c.from-total.ensures ∙ c.read_u16.ensures ∙ field-slice 2 2 c.args.octets.now

parts : (c : goal.After-cut-slices) → c.cut-slices.result ≡ packet_parts Ip4 c.args.octets.now
parts c =
    let b = c.args.octets.now in
    c.cut-slices.ensures
    ∙ ap (λ (n : ℕ). cut n c.from-total.result b) (header_is c)
    ∙ ap (λ (m : ℕ). cut (header_length Ip4 b) m b) (total_is c)

pub returns-clause-parts : goal.returns-clause-parts
returns-clause-parts c = parts c

pub returns-clause-split : goal.returns-clause-split
returns-clause-split c =
    let header = header_is c in
    let total = total_is c in
    split-as Ip4 c.args.octets.now _ (IsGood4-to c.args.octets.now (record { room = omega arith; version_is = omega arith; shortest = omega arith; behind = omega arith; there = omega arith })) (parts c)
