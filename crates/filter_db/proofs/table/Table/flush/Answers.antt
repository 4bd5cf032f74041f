use Rattle.std.proofs.Common.{◌≡◌, ◌∙◌, Bool, ap, filter, rules}
use Rattle.std.proofs.lemmas.Fn.{filter_same}
use Rattle.filter_db.specs.declared.entry.Entry.{Entry}
use Rattle.filter_db.specs.Table.{is_fixed}
use Rattle.filter_db.specs.Segment.{flush_in}
use Rattle.filter_db.proofs.RowsLemmas.{Row}
use Rattle.filter_db.proofs.ListLemmas.{IsSound-filter, segment_of-kept}
use Rattle.filter_db.proofs.table.Table.flush.Goals as goal

pub invariant_of-self : goal.invariant_of-self
invariant_of-self c =
    let stays : Entry → Bool = is_fixed in
    let left : c.retain.new.self.items ≡ filter (λ (r : Row). stays r.1) c.self.inside.rows.items = filter_same _ _ _ (λ x b f' k. search rules) _ _ c.retain.ensures.filtered in
    IsSound-filter c.self.invariant (λ r. stays r.1) left c.retain.ensures.capacity

pub returns : goal.returns
returns c =
    let stays : Entry → Bool = is_fixed in
    let left : c.retain.new.self.items ≡ filter (λ (r : Row). stays r.1) c.self.inside.rows.items = filter_same _ _ _ (λ x b f' k. search rules) _ _ c.retain.ensures.filtered in
    segment_of-kept c.self.inside.rows.items c.self.view_is c.self.invariant.unique stays left ∙ ap (flush_in) c.age.ensures.after
