use Rattle.std.proofs.Common.{◌≡◌, ◌∙◌, ℕ, Bool, ap, filter, rules}
use Rattle.std.proofs.lemmas.Fn.{filter_same}
use Rattle.filter_db.specs.declared.entry.Entry.{Entry}
use Rattle.filter_db.specs.Table.{is_live, nanoseconds, kept}
use Rattle.filter_db.specs.Segment.{Segment}
use Rattle.filter_db.proofs.RowsLemmas.{Row}
use Rattle.filter_db.proofs.ListLemmas.{IsSound-filter, segment_of-kept}
use Rattle.filter_db.proofs.table.Table.age.Goals as goal

pub invariant_of-self : goal.invariant_of-self
invariant_of-self c =
    let stays : Entry → Bool = is_live (nanoseconds c.self.inside.ageing) c.args.now in
    let left : c.retain.new.self.items ≡ filter (λ (r : Row). stays r.1) c.self.inside.rows.items = filter_same _ _ _ (λ x b f' k. search rules) _ _ c.retain.ensures.filtered in
    IsSound-filter c.self.invariant (λ r. stays r.1) left c.retain.ensures.capacity

pub returns-clause-after : goal.returns-clause-after
returns-clause-after c =
    let s = c.args.self.now in
    let stays : ℕ → Entry → Bool = λ seconds. is_live (nanoseconds seconds) c.args.now in
    let left : c.retain.new.self.items ≡ filter (λ (r : Row). stays c.self.inside.ageing r.1) c.self.inside.rows.items = filter_same _ _ _ (λ x b f' k. search rules) _ _ c.retain.ensures.filtered in
    let seconds : c.self.inside.ageing ≡ s.ageing = ap (λ (t : Segment). t.ageing) c.self.view_is in
    segment_of-kept c.self.inside.rows.items c.self.view_is c.self.invariant.unique (stays c.self.inside.ageing) left
    ∙ ap (λ (n : ℕ). let after : Segment = record { limit = s.limit; ageing = s.ageing; entries = kept (stays n) s.entries } in after) seconds
