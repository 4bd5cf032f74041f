use Rattle.std.proofs.Common.{◌≡◌, not, filter, rules}
use Rattle.std.proofs.lemmas.Fn.{filter_same}
use Rattle.filter_db.proofs.RowsLemmas.{is_of}
use Rattle.filter_db.proofs.ListLemmas.{IsSound-filter, segment_of-without}
use Rattle.filter_db.proofs.table.Table.remove.Goals as goal

pub invariant_of-self : goal.invariant_of-self
invariant_of-self c =
    let left : c.retain.new.self.items ≡ filter (λ r. not (is_of c.args.mac r)) c.self.inside.rows.items = filter_same _ _ _ (λ x b f' k. search rules) _ _ c.retain.ensures.filtered in
    IsSound-filter c.self.invariant (λ r. not (is_of c.args.mac r)) left c.retain.ensures.capacity

pub returns : goal.returns
returns c =
    let left : c.retain.new.self.items ≡ filter (λ r. not (is_of c.args.mac r)) c.self.inside.rows.items = filter_same _ _ _ (λ x b f' k. search rules) _ _ c.retain.ensures.filtered in
    segment_of-without c.self.inside.rows.items c.self.view_is c.args.mac left
