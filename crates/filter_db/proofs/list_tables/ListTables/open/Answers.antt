use Rattle.std.proofs.Common.{◌≡◌, ◌∙◌, ◌<◌, length, slice_set, take, Some, ap, arith}
use Rattle.std.proofs.Math.Path.{fun_ext}
use Rattle.std.proofs.Math.ListN.{length-set}
use Rattle.std.proofs.lemmas.List.{take_all}
use Rattle.std.specs.Option.{option_map}
use Rattle.filter_db.specs.Segment.{Segment, aged, new_segment, new_segments}
use Rattle.filter_db.specs.Database.{slot}
use Rattle.filter_db.proofs.DatabaseLemmas.{slot-new, segments_of-view, aged-new}
use Rattle.filter_db.proofs.list_tables.ListTables.open.Goals as goal

pub loop-rule-preserved : goal.loop-rule-preserved
loop-rule-preserved c =
    let rules = c.args.rules.now in
    let rule = c.rule-item.result in
    let tables = c.loop-rule.tables.items in
    let in_range : c.slot_of.result < length tables = omega (arith, c.loop-rule.invariant.size, c.slot_of.ensures.in_range) in
    let new : c.in_ok-table.table ≡ new_segment rule = c.in_ok-table.ensures in
    record {
      size = length-set tables c.slot_of.result (Some c.in_ok-table.table) ∙ c.loop-rule.invariant.size;
      opened = λ vid.
          ap (λ (s : Segment). slot (slice_set tables c.slot_of.result (Some s)) vid) new
          ∙ slot-new rules c.loop-rule.rule-index rule tables c.slot_of.result vid c.requires.distinct (omega arith) c.rule-item.is c.slot_of.ensures.value in_range (c.loop-rule.invariant.opened vid);
    }

pub returns-clause-segments : goal.returns-clause-segments
returns-clause-segments c =
    let rules = c.args.rules.now in
    let tables = c.loop-rule.tables.items in
    segments_of-view 0 tables
    ∙ fun_ext (λ vid.
    ap (option_map (aged 0)) (c.loop-rule.invariant.opened vid)
    ∙ aged-new 0 (take c.loop-rule.rule-index rules) vid
    ∙ ap (λ rs. new_segments rs vid) (take_all c.loop-rule.rule-index rules (omega arith)))
