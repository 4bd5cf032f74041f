use Rattle.std.proofs.Common.{◌∙◌, sym, ap}
use Rattle.std.specs.Bool.{then_some}
use Rattle.filter_db.specs.Table.{is_live, nanoseconds}
use Rattle.filter_db.specs.Segment.{Segment}
use Rattle.filter_db.proofs.TableLemmas.{stands-Some, stands-None}
use Rattle.filter_db.proofs.table.Table.look.Goals as goal

pub returns-in_err-entry : goal.returns-in_err-entry
returns-in_err-entry c =
    let s = c.args.self.now in
    c.from_residual.ensures ∙ sym (stands-None (is_live (nanoseconds s.ageing) c.args.now) s.entries c.args.mac (sym c.entry.ensures ∙ c.in_err-entry.was))

pub returns : goal.returns
returns c =
    let s = c.args.self.now in
    let entry = c.in_ok-entry.entry in
    c.then_some.ensures
    ∙ ap (λ b. then_some b entry.place) (c.is_live.ensures ∙ ap (λ (t : Segment). is_live (nanoseconds t.ageing) c.args.now entry) c.self.view_is)
    ∙ sym (stands-Some (is_live (nanoseconds s.ageing) c.args.now) s.entries c.args.mac entry (sym c.entry.ensures ∙ c.in_ok-entry.was))
