use Rattle.std.proofs.Common.{◌↔◌, ◌∙◌, IsTrue, IsErr, sym, ap, subst}
use Rattle.filter_db.specs.Table.{is_full}
use Rattle.std.specs.Option.{option_copied_mut}
use Rattle.filter_db.specs.Segment.{Segment, fix_in}
use Rattle.filter_db.proofs.DatabaseLemmas.{finds, segment_at-found, segments-changed, settled-fix}
use Rattle.filter_db.proofs.list_tables.ListTablesTables.fix.Goals as goal

pub returns-clause-full : goal.returns-clause-full
returns-clause-full c =
    let found = finds c.self.inside.tables.items c.self.view_is c.requires.time c.self.invariant c.slot_of.ensures.value c.slot_of.ensures.in_range c.index_mut.ensures.value (sym c.as_mut.ensures.value ∙ ap option_copied_mut c.unwrap.ensures) in
    subst (λ (s : Segment). IsErr c.fix.result ↔ IsTrue (is_full s.limit c.args.mac s.entries)) (sym (segment_at-found found)) c.fix.ensures.full

pub returns-clause-after : goal.returns-clause-after
returns-clause-after c =
    let found = finds c.self.inside.tables.items c.self.view_is c.requires.time c.self.invariant c.slot_of.ensures.value c.slot_of.ensures.in_range c.index_mut.ensures.value (sym c.as_mut.ensures.value ∙ ap option_copied_mut c.unwrap.ensures) in
    segments-changed _ (fix_in c.args.place c.args.mac) found c.fix.ensures.after (settled-fix c.args.now c.args.place c.args.mac c.unwrap.result.now)
