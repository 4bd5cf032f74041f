use Rattle.std.proofs.Common.{◌∙◌, sym, ap}
use Rattle.filter_db.specs.Table.{learned_as}
use Rattle.std.specs.Option.{option_copied_mut}
use Rattle.filter_db.specs.Segment.{Segment, learn_in}
use Rattle.filter_db.proofs.DatabaseLemmas.{finds, segment_at-found, segments-changed, settled-learn}
use Rattle.filter_db.proofs.list_tables.ListTablesTables.learn.Goals as goal

pub returns-clause-answer : goal.returns-clause-answer
returns-clause-answer c =
    let found = finds c.self.inside.tables.items c.self.view_is c.requires.time c.self.invariant c.slot_of.ensures.value c.slot_of.ensures.in_range c.index_mut.ensures.value (sym c.as_mut.ensures.value ∙ ap option_copied_mut c.unwrap.ensures) in
    c.learn.ensures.answer ∙ ap (λ (s : Segment). learned_as s.limit c.args.place c.args.mac s.entries) (sym (segment_at-found found))

pub returns-clause-after : goal.returns-clause-after
returns-clause-after c =
    let found = finds c.self.inside.tables.items c.self.view_is c.requires.time c.self.invariant c.slot_of.ensures.value c.slot_of.ensures.in_range c.index_mut.ensures.value (sym c.as_mut.ensures.value ∙ ap option_copied_mut c.unwrap.ensures) in
    segments-changed _ (learn_in c.args.now c.args.place c.args.mac) found c.learn.ensures.after (settled-learn c.args.now c.args.place c.args.mac c.unwrap.result.now c.learn.ensures.some_time)
