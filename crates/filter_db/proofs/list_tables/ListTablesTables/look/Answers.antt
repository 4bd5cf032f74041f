use Rattle.std.proofs.Common.{◌∙◌, sym, ap}
use Rattle.std.specs.Option.{option_copied}
use Rattle.filter_db.specs.Table.{stands}
use Rattle.filter_db.specs.Segment.{Segment}
use Rattle.filter_db.proofs.DatabaseLemmas.{finds, segment_at-found}
use Rattle.filter_db.proofs.list_tables.ListTablesTables.look.Goals as goal

pub returns-clause-answer : goal.returns-clause-answer
returns-clause-answer c =
    let found = finds c.self.inside.tables.items c.self.view_is c.requires.time c.self.invariant c.slot_of.ensures.value c.slot_of.ensures.in_range c.index.ensures (sym c.as_ref.ensures.value ∙ ap option_copied c.unwrap.ensures) in
    c.look.ensures ∙ ap (λ (s : Segment). stands c.args.mac s.entries) (sym (segment_at-found found))
