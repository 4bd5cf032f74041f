use Rattle.std.proofs.Common.{◌↔◌, ◌∙◌, IsTrue, IsOk, sym, ap, subst}
use Rattle.filter_db.specs.Table.{has_fixed}
use Rattle.std.specs.Option.{option_copied_mut}
use Rattle.filter_db.specs.Segment.{Segment, unfix_in}
use Rattle.filter_db.proofs.DatabaseLemmas.{finds, segment_at-found, segments-changed, settled-unfix}
use Rattle.filter_db.proofs.list_tables.ListTablesTables.unfix.Goals as goal

pub returns-clause-there : goal.returns-clause-there
returns-clause-there c =
    let found = finds c.self.inside.tables.items c.self.view_is c.requires.time c.self.invariant c.slot_of.ensures.value c.slot_of.ensures.in_range c.index_mut.ensures.value (sym c.as_mut.ensures.value ∙ ap option_copied_mut c.unwrap.ensures) in
    subst (λ (s : Segment). IsOk c.unfix.result ↔ IsTrue (has_fixed c.args.mac s.entries)) (sym (segment_at-found found)) c.unfix.ensures.there

pub returns-clause-after : goal.returns-clause-after
returns-clause-after c =
    let found = finds c.self.inside.tables.items c.self.view_is c.requires.time c.self.invariant c.slot_of.ensures.value c.slot_of.ensures.in_range c.index_mut.ensures.value (sym c.as_mut.ensures.value ∙ ap option_copied_mut c.unwrap.ensures) in
    segments-changed _ (unfix_in c.args.mac) found c.unfix.ensures.after (settled-unfix c.args.now c.args.mac c.unwrap.result.now)
