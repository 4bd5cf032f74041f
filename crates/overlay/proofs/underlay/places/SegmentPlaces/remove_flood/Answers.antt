use Rattle.std.proofs.Common.{◌∙◌, Some, ap, sym, arith}
use Rattle.std.specs.Prelude.{is_some, nat_le}
use Rattle.std.specs.Option.{option_copied_mut}
use Rattle.overlay.specs.UnderlayFlood.{Entries, holds, is_wide, without}
use Rattle.overlay.specs.Overlay.{flooding}
use Rattle.overlay.specs.Seats.{Seats, gives}
use Rattle.overlay.proofs.UnderlayFloodLemmas.{Flooded, with_list, has_place, has_seat, has_row, flooded, flooding_same, on_err_as, on_ok_as}
use Rattle.overlay.proofs.RoomsLemmas.{gave, gave_beside, rooms_at, rooms_read}
use Rattle.overlay.proofs.underlay.places.SegmentPlaces.remove_flood.Goals as goal

pub unwrap-requires : goal.unwrap-requires
unwrap-requires c = has_place c.args.self.now c.self.inside.flood c.self.inside.rows.items c.self.inside.index.items c.args.vid c.from.result c.index.result.now c.self.view_is c.index.ensures (omega arith) (omega arith) c.requires.there

pub index_mut-requires : goal.index_mut-requires
index_mut-requires c =
    omega (arith, has_seat c.args.self.now c.self.inside.flood c.self.inside.rows.items c.self.inside.index.items c.args.vid c.from.result c.index.result.now c.self.view_is c.index.ensures (omega arith) (omega arith) c.unwrap.result c.unwrap.ensures c.self.invariant.2)

pub unwrap-row-requires : goal.unwrap-row-requires
unwrap-row-requires c =
    c.as_mut.ensures.variant
    ∙ has_row c.args.self.now c.self.inside.flood c.self.inside.rows.items c.self.inside.index.items c.args.vid c.from.result c.index.result.now c.self.view_is c.index.ensures (omega arith) (omega arith)
    c.unwrap.result c.from-place.result c.index_mut.result.now c.unwrap.ensures c.index_mut.ensures.value (omega arith)
    (has_seat c.args.self.now c.self.inside.flood c.self.inside.rows.items c.self.inside.index.items c.args.vid c.from.result c.index.result.now c.self.view_is c.index.ensures (omega arith) (omega arith) c.unwrap.result c.unwrap.ensures c.self.invariant.2) c.requires.there

left : (c : goal.After-self-2-1) → Flooded c.args.self.now c.self.inside.rows.items c.self.inside.index.items c.args.vid c.from-place.result c.unwrap-row.result.now c.remove-removed.new.self
left c =
    flooded c.args.self.now c.self.inside.flood c.self.inside.rows.items c.self.inside.index.items c.args.vid c.from.result c.index.result.now c.self.view_is c.index.ensures (omega arith) (omega arith)
    c.unwrap.result c.from-place.result c.index_mut.result.now c.unwrap.ensures c.index_mut.ensures.value (omega arith)
    (has_seat c.args.self.now c.self.inside.flood c.self.inside.rows.items c.self.inside.index.items c.args.vid c.from.result c.index.result.now c.self.view_is c.index.ensures (omega arith) (omega arith) c.unwrap.result c.unwrap.ensures c.self.invariant.2)
    c.unwrap-row.result.now c.remove-removed.new.self (c.self.invariant.0, c.self.invariant.1, c.self.invariant.2, c.self.invariant.3) (sym c.as_mut.ensures.value ∙ ap option_copied_mut c.unwrap-row.ensures)

pub index_mut-requires-2 : goal.index_mut-requires-2
index_mut-requires-2 c =
    omega (arith, c.self.invariant.4.size, has_seat c.args.self.now c.self.inside.flood c.self.inside.rows.items c.self.inside.index.items c.args.vid c.from.result c.index.result.now c.self.view_is c.index.ensures (omega arith) (omega arith) c.unwrap.result c.unwrap.ensures c.self.invariant.2)

pub invariant_of-self : goal.invariant_of-self
invariant_of-self c =
    let kept = (left c).kept in
    let old = c.unwrap-row.result.now.segment.flood in
    let new = c.remove-removed.new.self in (
      kept.0,
      kept.1,
      kept.2,
      kept.3,
      rooms_at (λ row. row.segment.flood) c.self.inside.flood c.self.inside.rows.items c.self.inside.rooms.items c.from-place.result (Some (with_list c.unwrap-row.result.now new)) c.given_back.new.room c.self.invariant.4
          (gave_beside (nat_le c.self.inside.flood 16) (is_some c.index_mut-2.result.now) (is_wide old) (is_some c.given_back.new.room) (gives c.remove-removed.result) c.given_back.ensures.room (is_wide new)
          (gave c.remove-removed.result old new c.remove-removed.ensures.kept c.remove-removed.ensures.refused) (rooms_read (λ row. row.segment.flood) c.self.inside.flood c.self.inside.rows.items c.self.inside.rooms.items c.from-place.result c.index_mut.result.now c.unwrap-row.result.now c.index_mut-2.result.now c.self.invariant.4
          (omega (arith, has_seat c.args.self.now c.self.inside.flood c.self.inside.rows.items c.self.inside.index.items c.args.vid c.from.result c.index.result.now c.self.view_is c.index.ensures (omega arith) (omega arith) c.unwrap.result c.unwrap.ensures c.self.invariant.2))
          c.index_mut.ensures.value (sym c.as_mut.ensures.value ∙ ap option_copied_mut c.unwrap-row.ensures) c.index_mut-2.ensures.value)),
    )

pub returns-clause-there : goal.returns-clause-there
returns-clause-there c = c.given_back.ensures.there ∙ c.remove-removed.ensures.there ∙ ap (λ (l : Entries). holds l c.args.kind c.args.addr) (left c).list

pub returns-clause-removed : goal.returns-clause-removed
returns-clause-removed c =
    on_ok_as c.given_back.result c.remove-removed.result c.given_back.ensures.there c.remove-removed.ensures.removed (λ done.
    (left c).segments ∙ ap (λ (l : Entries). flooding c.args.self.now.segments c.args.vid l) (done ∙ ap (λ (l : Entries). without l c.args.kind c.args.addr) (left c).list))

pub returns-clause-refused : goal.returns-clause-refused
returns-clause-refused c =
    on_err_as c.given_back.result c.remove-removed.result c.given_back.ensures.there c.remove-removed.ensures.refused (λ same.
    (left c).segments ∙ ap (λ (l : Entries). flooding c.args.self.now.segments c.args.vid l) (same ∙ (left c).list) ∙ flooding_same c.args.self.now.segments c.args.vid)

pub returns-clause-heads : goal.returns-clause-heads
returns-clause-heads c = (left c).heads

pub returns-clause-most : goal.returns-clause-most
returns-clause-most c = (left c).most

pub returns-clause-lists : goal.returns-clause-lists
returns-clause-lists c = ap (λ (s : Seats). s.flood) c.self.view_is
