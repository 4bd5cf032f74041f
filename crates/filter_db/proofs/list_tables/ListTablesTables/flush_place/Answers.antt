use Rattle.std.proofs.Common.{◌∙◌, sym, ap}
use Rattle.std.specs.Option.{option_copied_mut}
use Rattle.filter_db.specs.Segment.{flush_place_in}
use Rattle.filter_db.proofs.DatabaseLemmas.{finds, segments-changed, settled-flush_place}
use Rattle.filter_db.proofs.list_tables.ListTablesTables.flush_place.Goals as goal

pub returns-clause-after : goal.returns-clause-after
returns-clause-after c =
    let found = finds c.self.inside.tables.items c.self.view_is c.requires.time c.self.invariant c.slot_of.ensures.value c.slot_of.ensures.in_range c.index_mut.ensures.value (sym c.as_mut.ensures.value ∙ ap option_copied_mut c.unwrap.ensures) in
    segments-changed _ (flush_place_in c.args.place) found c.flush_place.ensures (settled-flush_place c.args.now c.args.place c.unwrap.result.now)
