use Rattle.std.proofs.Common.{◌∙◌, ap, Bool, cond, ◌&&◌, Some}
use Rattle.std.specs.Ordering.{eq_by_cmp}
use Rattle.filter_db.specs.declared.entry.Entry.{Entry}
use Rattle.filter_db.specs.Table.{mac_cmp}
use Rattle.endpoint_core.proofs.ForesightLemmas.{learned-gets}
use Rattle.endpoint_core.proofs.state.state.foresight.after_learning.Goals as goal

pub returns : goal.returns
returns c m is count =
    let e : Entry = record { place = c.args.from; last = Some c.args.now } in
    c.renewed.ensures
    ∙ ap (λ (b : Bool). cond (c.args.learning && (b && c.is_learned-is_taken.result)) (Some e) c.args.stood) c.is_same-is_source.ensures
    ∙ ap (λ (b : Bool). cond (c.args.learning && (eq_by_cmp mac_cmp c.args.destination c.args.source && b)) (Some e) c.args.stood) c.is_learned-is_taken.ensures
    ∙ learned-gets c.args.learning c.args.limit c.args.entries c.args.now c.args.from c.args.source c.args.destination c.args.stood m is count
