use Rattle.std.proofs.Common.{◌≡◌, ◌∙◌, sym, ap, position, Some, None}
use Rattle.filter_db.proofs.RowsLemmas.{Row, is_of}
use Rattle.filter_db.proofs.ListLemmas.{get-Some, get-None}
use Rattle.filter_db.proofs.table.Table.entry.Goals as goal

pub returns-in_err-index : goal.returns-in_err-index
returns-in_err-index c =
    let new : position (is_of c.args.mac) c.self.inside.rows.items ≡ None = ap (position (is_of c.args.mac)) (sym c.deref.ensures.value) ∙ sym c.position.ensures ∙ c.in_err-index.was in
    c.from_residual.ensures ∙ sym (get-None c.self.inside.rows.items c.self.view_is c.args.mac new)

pub returns : goal.returns
returns c =
    let found : position (is_of c.args.mac) c.self.inside.rows.items ≡ Some c.in_ok-index.index = ap (position (is_of c.args.mac)) (sym c.deref.ensures.value) ∙ sym c.position.ensures ∙ c.in_ok-index.was in
    ap (λ (r : Row). Some r.1) c.index.ensures ∙ sym (get-Some c.self.inside.rows.items c.self.view_is c.args.mac c.in_ok-index.index c.index.result.now found)
