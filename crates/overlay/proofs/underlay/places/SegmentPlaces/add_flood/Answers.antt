use Rattle.std.proofs.Common.{◌∙◌, ◌++◌, ◌∷◌, [], Some, ap, sym, refl, arith}
use Rattle.std.specs.Prelude.{is_some, nat_le}
use Rattle.std.specs.Option.{option_copied_mut}
use Rattle.overlay.specs.UnderlayFlood.{Entries, first, add_faults, is_wide}
use Rattle.overlay.specs.Overlay.{flood_in, flooding}
use Rattle.overlay.specs.Seats.{Seats}
use Rattle.overlay.proofs.UnderlayFloodLemmas.{Flooded, with_list, has_place, has_seat, has_row, flooded, on_ok}
use Rattle.overlay.proofs.RoomsLemmas.{or_same, rooms_at, rooms_read, roomy}
use Rattle.overlay.proofs.underlay.places.SegmentPlaces.add_flood.Goals as goal

pub unwrap-requires : goal.unwrap-requires
unwrap-requires c = has_place c.args.self.now c.self.inside.flood c.self.inside.rows.items c.self.inside.index.items c.args.vid c.from.result c.index.result.now c.self.view_is c.index.ensures (omega arith) (omega arith) c.requires.there

pub index_mut-requires : goal.index_mut-requires
index_mut-requires c =
    omega (arith, has_seat c.args.self.now c.self.inside.flood c.self.inside.rows.items c.self.inside.index.items c.args.vid c.from.result c.index.result.now c.self.view_is c.index.ensures (omega arith) (omega arith) c.unwrap.result c.unwrap.ensures c.self.invariant.2)

pub unwrap-row-requires : goal.unwrap-row-requires
unwrap-row-requires c =
    c.as_mut.ensures.variant
    ∙ has_row c.args.self.now c.self.inside.flood c.self.inside.rows.items c.self.inside.index.items c.args.vid c.from.result c.index.result.now c.self.view_is c.index.ensures (omega arith) (omega arith)
    c.unwrap.result c.from-place.result c.index_mut.result.now c.unwrap.ensures c.index_mut.ensures.value (omega arith)
    (has_seat c.args.self.now c.self.inside.flood c.self.inside.rows.items c.self.inside.index.items c.args.vid c.from.result c.index.result.now c.self.view_is c.index.ensures (omega arith) (omega arith) c.unwrap.result c.unwrap.ensures c.self.invariant.2) c.requires.there

left : (c : goal.After-self-2-1) → Flooded c.args.self.now c.self.inside.rows.items c.self.inside.index.items c.args.vid c.from-place.result c.unwrap-row.result.now c.add.new.self
left c =
    flooded c.args.self.now c.self.inside.flood c.self.inside.rows.items c.self.inside.index.items c.args.vid c.from.result c.index.result.now c.self.view_is c.index.ensures (omega arith) (omega arith)
    c.unwrap.result c.from-place.result c.index_mut.result.now c.unwrap.ensures c.index_mut.ensures.value (omega arith)
    (has_seat c.args.self.now c.self.inside.flood c.self.inside.rows.items c.self.inside.index.items c.args.vid c.from.result c.index.result.now c.self.view_is c.index.ensures (omega arith) (omega arith) c.unwrap.result c.unwrap.ensures c.self.invariant.2)
    c.unwrap-row.result.now c.add.new.self (c.self.invariant.0, c.self.invariant.1, c.self.invariant.2, c.self.invariant.3) (sym c.as_mut.ensures.value ∙ ap option_copied_mut c.unwrap-row.ensures)

pub index_mut-room-requires : goal.index_mut-room-requires
index_mut-room-requires c =
    omega (arith, c.self.invariant.4.size, has_seat c.args.self.now c.self.inside.flood c.self.inside.rows.items c.self.inside.index.items c.args.vid c.from.result c.index.result.now c.self.view_is c.index.ensures (omega arith) (omega arith) c.unwrap.result c.unwrap.ensures c.self.invariant.2)

pub add-requires : goal.add-requires
add-requires c =
    roomy c.self.inside.flood c.unwrap-row.result.now.segment.flood c.index_mut-room.result.now (rooms_read (λ row. row.segment.flood) c.self.inside.flood c.self.inside.rows.items c.self.inside.rooms.items c.from-place.result c.index_mut.result.now c.unwrap-row.result.now c.index_mut-room.result.now c.self.invariant.4
    (omega (arith, has_seat c.args.self.now c.self.inside.flood c.self.inside.rows.items c.self.inside.index.items c.args.vid c.from.result c.index.result.now c.self.view_is c.index.ensures (omega arith) (omega arith) c.unwrap.result c.unwrap.ensures c.self.invariant.2))
    c.index_mut.ensures.value (sym c.as_mut.ensures.value ∙ ap option_copied_mut c.unwrap-row.ensures) c.index_mut-room.ensures.value)

pub invariant_of-self : goal.invariant_of-self
invariant_of-self c =
    let kept = (left c).kept in (
      kept.0,
      kept.1,
      kept.2,
      kept.3,
      rooms_at (λ row. row.segment.flood) c.self.inside.flood c.self.inside.rows.items c.self.inside.rooms.items c.from-place.result (Some (with_list c.unwrap-row.result.now c.add.new.self)) c.add.new.room c.self.invariant.4
          (or_same (nat_le c.self.inside.flood 16) (is_some c.index_mut-room.result.now) (is_wide c.unwrap-row.result.now.segment.flood) (is_some c.add.new.room) (is_wide c.add.new.self) c.add.ensures.kept (rooms_read (λ row. row.segment.flood) c.self.inside.flood c.self.inside.rows.items c.self.inside.rooms.items c.from-place.result c.index_mut.result.now c.unwrap-row.result.now c.index_mut-room.result.now c.self.invariant.4
          (omega (arith, has_seat c.args.self.now c.self.inside.flood c.self.inside.rows.items c.self.inside.index.items c.args.vid c.from.result c.index.result.now c.self.view_is c.index.ensures (omega arith) (omega arith) c.unwrap.result c.unwrap.ensures c.self.invariant.2))
          c.index_mut.ensures.value (sym c.as_mut.ensures.value ∙ ap option_copied_mut c.unwrap-row.ensures) c.index_mut-room.ensures.value)),
    )

pub returns-clause-fault : goal.returns-clause-fault
returns-clause-fault c =
    c.add.ensures.fault ∙ ap (λ (l : Entries). first (add_faults c.args.own.now c.self.inside.flood l c.args.kind c.args.addr)) (left c).list
    ∙ ap (λ (s : Seats). first (add_faults c.args.own.now s.flood (flood_in c.args.self.now.segments c.args.vid) c.args.kind c.args.addr)) c.self.view_is

pub returns-clause-added : goal.returns-clause-added
returns-clause-added c =
    on_ok c.add.result c.add.result refl c.add.ensures.added (λ done.
    (left c).segments ∙ ap (λ (l : Entries). flooding c.args.self.now.segments c.args.vid l) (done ∙ ap (λ (l : Entries). l ++ record { tunnel = c.args.kind; addr = c.args.addr } ∷ []) (left c).list))

pub returns-clause-heads : goal.returns-clause-heads
returns-clause-heads c = (left c).heads

pub returns-clause-most : goal.returns-clause-most
returns-clause-most c = (left c).most

pub returns-clause-lists : goal.returns-clause-lists
returns-clause-lists c = ap (λ (s : Seats). s.flood) c.self.view_is
