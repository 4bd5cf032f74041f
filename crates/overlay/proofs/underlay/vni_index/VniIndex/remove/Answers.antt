use Rattle.std.proofs.Common.{ap, length, arith}
use Rattle.std.specs.Cmp.{nat_cmp_total}
use Rattle.std.specs.FinMap.{nat_cmp-IsAntisymmetric}
use Rattle.overlay.specs.Index.{Index, Listed}
use Rattle.overlay.proofs.SearchLemmas.{entries_shown, get_in_gap, taken_shown, remove_none}
use Rattle.overlay.proofs.RoomLemmas.{same_listed}
use Rattle.overlay.proofs.underlay.vni_index.VniIndex.remove.Goals as goal

pub remove-requires : goal.remove-requires
remove-requires c = omega (arith, c.in-Ok.ensures.0, ap length (entries_shown nat_cmp_total c.self.inside.entries.items c.args.self.now.vids c.self.invariant.0 (ap (λ (l : Listed). l.vids) c.self.view_is)))

pub invariant_of-self : goal.invariant_of-self
invariant_of-self c =
    let shown = taken_shown nat_cmp_total nat_cmp-IsAntisymmetric c.self.inside.entries.items c.remove.new.self.items c.args.self.now.vids c.args.vni c.in-Ok.place c.self.invariant.0 (ap (λ (l : Listed). l.vids) c.self.view_is) c.in-Ok.ensures c.remove.ensures.items in
    (shown.0, omega (arith, c.remove.ensures.capacity))

pub returns-in-Ok : goal.returns-in-Ok
returns-in-Ok c =
    let shown = taken_shown nat_cmp_total nat_cmp-IsAntisymmetric c.self.inside.entries.items c.remove.new.self.items c.args.self.now.vids c.args.vni c.in-Ok.place c.self.invariant.0 (ap (λ (l : Listed). l.vids) c.self.view_is) c.in-Ok.ensures c.remove.ensures.items in
    same_listed _ _ c.self.inside.most c.args.self.now shown.1 (ap (λ (l : Listed). l.most) c.self.view_is)

-- it isn't there
pub returns-in_default : goal.returns-in_default
returns-in_default c = ap (λ (m : Index). let l : Listed = record c.args.self.now { vids = m } in l) (remove_none nat_cmp_total nat_cmp-IsAntisymmetric c.args.self.now.vids c.args.vni (get_in_gap nat_cmp_total c.args.self.now.vids c.args.vni c.in_default.field-0 c.in_default.ensures))
