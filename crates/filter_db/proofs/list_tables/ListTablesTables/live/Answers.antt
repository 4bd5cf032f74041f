use Rattle.std.proofs.Common.{◌∙◌, sym, ap}
use Rattle.std.specs.FinMap.{len}
use Rattle.std.specs.Option.{option_copied_mut}
use Rattle.filter_db.specs.Segment.{Segment}
use Rattle.filter_db.proofs.DatabaseLemmas.{finds, segment_at-found, segments-same}
use Rattle.filter_db.proofs.list_tables.ListTablesTables.live.Goals as goal

pub returns-clause-count : goal.returns-clause-count
returns-clause-count c =
    let found = finds c.self.inside.tables.items c.self.view_is c.requires.time c.self.invariant c.slot_of.ensures.value c.slot_of.ensures.in_range c.index_mut.ensures.value (sym c.as_mut.ensures.value ∙ ap option_copied_mut c.unwrap.ensures) in
    c.live.ensures.count ∙ ap (λ (s : Segment). len s.entries) (c.live.ensures.after ∙ sym (segment_at-found found))

pub returns-clause-after : goal.returns-clause-after
returns-clause-after c =
    let found = finds c.self.inside.tables.items c.self.view_is c.requires.time c.self.invariant c.slot_of.ensures.value c.slot_of.ensures.in_range c.index_mut.ensures.value (sym c.as_mut.ensures.value ∙ ap option_copied_mut c.unwrap.ensures) in
    segments-same _ found c.live.ensures.after
