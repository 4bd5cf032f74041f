use Rattle.std.proofs.Common.{List, ℕ, ◌∷◌, slice_index_or, sym, subst}
use Rattle.wire.specs.Vxlan.{IsVxlan}
use Rattle.wire.proofs.VxlanReading.{vxlan-sent}
use Rattle.wire.proofs.vxlan.header.vxlan_head.Goals as goal

pub returns-clause-read_back : goal.returns-clause-read_back
returns-clause-read_back c inner =
    subst (λ (x : List ℕ). IsVxlan (8 ∷ 0 ∷ 0 ∷ 0 ∷ slice_index_or x 0 0 ∷ slice_index_or x 1 0 ∷ slice_index_or x 2 0 ∷ 0 ∷ inner) c.args.vni inner)
    (sym c.octets.ensures.value) (vxlan-sent c.args.vni inner c.octets.ensures.in_range)
