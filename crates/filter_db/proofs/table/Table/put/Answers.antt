use Rattle.std.proofs.Common.{◌≡◌, ◌∙◌, sym, ap, position, Some, None, arith}
use Rattle.filter_db.proofs.RowsLemmas.{is_of}
use Rattle.filter_db.proofs.ListLemmas.{IsSound-set, IsSound-push, segment_of-set, segment_of-push, room_for}
use Rattle.filter_db.proofs.table.Table.put.Goals as goal

pub invariant_of-self : goal.invariant_of-self
invariant_of-self c =
    let found : position (is_of c.args.mac) c.self.inside.rows.items ≡ Some c.in-Some.index = ap (position (is_of c.args.mac)) (sym c.deref.ensures.value) ∙ sym c.position.ensures ∙ c.in-Some.is in
    IsSound-set c.self.invariant c.args.mac c.args.entry c.in-Some.index found

pub push_reserved-requires : goal.push_reserved-requires
push_reserved-requires c =
    let rows = c.self.inside.rows in
    let new : position (is_of c.args.mac) rows.items ≡ None = ap (position (is_of c.args.mac)) (sym c.deref.ensures.value) ∙ sym c.position.ensures ∙ c.in-None.is in
    let more = room_for c.self.inside.rows.items c.self.view_is c.self.invariant.unique c.args.mac new c.requires in
    omega (arith, c.self.invariant.room, rows.ok.0)

pub invariant_of-self-in-None : goal.invariant_of-self-in-None
invariant_of-self-in-None c =
    let new : position (is_of c.args.mac) c.self.inside.rows.items ≡ None = ap (position (is_of c.args.mac)) (sym c.deref.ensures.value) ∙ sym c.position.ensures ∙ c.in-None.is in
    let more = room_for c.self.inside.rows.items c.self.view_is c.self.invariant.unique c.args.mac new c.requires in
    IsSound-push c.self.invariant c.args.mac c.args.entry new more c.push_reserved.ensures.items c.push_reserved.ensures.capacity

pub returns-in-Some : goal.returns-in-Some
returns-in-Some c =
    let found : position (is_of c.args.mac) c.self.inside.rows.items ≡ Some c.in-Some.index = ap (position (is_of c.args.mac)) (sym c.deref.ensures.value) ∙ sym c.position.ensures ∙ c.in-Some.is in
    segment_of-set c.self.inside.rows.items c.self.view_is c.args.mac c.args.entry c.in-Some.index found

pub returns-in-None : goal.returns-in-None
returns-in-None c =
    let new : position (is_of c.args.mac) c.self.inside.rows.items ≡ None = ap (position (is_of c.args.mac)) (sym c.deref.ensures.value) ∙ sym c.position.ensures ∙ c.in-None.is in
    segment_of-push c.self.inside.rows.items c.self.view_is c.args.mac c.args.entry new c.push_reserved.ensures.items
