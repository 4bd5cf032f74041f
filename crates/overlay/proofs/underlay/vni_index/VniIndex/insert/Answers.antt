use Rattle.std.proofs.Common.{◌≡◌, ◌<◌, ap, length, arith, T}
use Rattle.std.specs.Cmp.{nat_cmp_total}
use Rattle.std.specs.Ordering.{nat_cmp}
use Rattle.std.specs.Vec.{vec_len, vec_capacity}
use Rattle.std.specs.FinMap.{is_sorted, from_sorted, len-entries}
use Rattle.std.specs.FinMap as map
use Rattle.overlay.specs.Index.{Listed}
use Rattle.overlay.proofs.SearchLemmas.{entries_shown, get_at, put_shown}
use Rattle.overlay.proofs.RoomLemmas.{same_listed}
use Rattle.overlay.proofs.underlay.vni_index.VniIndex.insert.Goals as goal

pub insert-requires : goal.insert-requires
insert-requires c = omega (arith, c.in-Err.ensures.0, ap length (entries_shown nat_cmp_total c.self.inside.entries.items c.args.self.now.vids c.self.invariant.0 (ap (λ (l : Listed). l.vids) c.self.view_is)))

-- there is room, so the entry goes in
shown : (c : goal.After-insert) → (T (is_sorted nat_cmp c.insert.new.self.items)) × (from_sorted c.insert.new.self.items ≡ map.insert c.args.self.now.vids c.args.vni c.args.vid)
shown c =
    let same = entries_shown nat_cmp_total c.self.inside.entries.items c.args.self.now.vids c.self.invariant.0 (ap (λ (l : Listed). l.vids) c.self.view_is) in
    let room : vec_len c.self.inside.entries < vec_capacity c.self.inside.entries = omega (arith, c.requires.room, c.self.invariant.1, ap (λ (l : Listed). l.most) c.self.view_is, len-entries c.args.self.now.vids, ap length same) in
    put_shown nat_cmp_total c.self.inside.entries.items c.insert.new.self.items c.args.self.now.vids c.args.vni c.args.vid c.in-Err.place c.self.invariant.0 (ap (λ (l : Listed). l.vids) c.self.view_is) c.in-Err.ensures (rw (c.insert.ensures.succeeds room) at c.insert.ensures.items)

pub invariant_of-self : goal.invariant_of-self
invariant_of-self c = ((shown c).0, omega (arith, c.insert.ensures.capacity))

pub returns-in-Err : goal.returns-in-Err
returns-in-Err c = same_listed _ _ c.self.inside.most c.args.self.now (shown c).1 (ap (λ (l : Listed). l.most) c.self.view_is)

-- it is there
pub returns-in_default : goal.returns-in_default
returns-in_default c = absurd (grind (arith, get_at nat_cmp_total c.args.self.now.vids c.args.vni c.in_default.field-0 (0, 0) c.in_default.ensures, c.requires.new))
