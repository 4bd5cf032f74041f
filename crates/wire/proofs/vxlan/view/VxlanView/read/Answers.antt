use Rattle.std.proofs.Common.{◌≡◌, ◌-◌, ◌/◌, ◌%◌, ℕ, List, length, take, drop, subst, sym, ◌∙◌, arith}
use Rattle.std.proofs.lemmas.Bool.{le-ltb, not_from_true, eq-eqb}
use Rattle.std.proofs.lemmas.List.{take_rest}
use Rattle.wire.specs.Octets.{octet}
use Rattle.wire.proofs.FirstLemmas.{first-nothing}
use Rattle.wire.specs.Vxlan.{IsVxlan}
use Rattle.wire.specs.VxlanReading.{vxlan_vni, vxlan_inner, vxlan_faults}
use Rattle.wire.proofs.VxlanReading.{vxlan-found, vxlan-only}
use Rattle.wire.proofs.vxlan.view.VxlanView.read.Goals as goal
use Rattle.wire.proofs.vxlan.view.VxlanView.read.Goals.{After-from_octets}

vni_is : (c : After-from_octets) → c.from_octets.result ≡ vxlan_vni c.args.octets.now
vni_is c = c.from_octets.ensures

payload_is : (c : After-from_octets) → take (length c.args.octets.now - 8) (drop 8 c.args.octets.now) ≡ vxlan_inner c.args.octets.now
payload_is c = take_rest c.args.octets.now 8

pub returns-clause-packet : goal.returns-clause-packet
returns-clause-packet c =
    let s = (goal.at.returns-clause-packet c).After-from_octets in
    let text = c.args.octets.now in
    let flag : octet 0 text / 8 % 2 ≡ 1 = omega arith in
    let none = first-nothing (vxlan_faults text) (le-ltb _ _ (omega arith), (not_from_true _ (eq-eqb _ 1 flag), tt)) in
    subst (λ (n : ℕ). IsVxlan text n (take (length text - 8) (drop 8 text))) (sym (vni_is s))
    (subst (λ (e : List ℕ). IsVxlan text (vxlan_vni text) e) (sym (payload_is s)) (vxlan-found text (λ i. omega (arith, c.type_inv.octets i)) none))

pub returns-clause-only : goal.returns-clause-only
returns-clause-only c vni inner packet =
    let s = (goal.at.returns-clause-only c).After-from_octets in
    let says = vxlan-only c.args.octets.now vni inner packet in
    (vni_is s ∙ says.1, payload_is s ∙ says.2)
