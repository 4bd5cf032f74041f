use Rattle.std.proofs.Common.{Err, rules, subst, sym}
use Rattle.capture_survey.specs.Survey.{ReadsAll}
use Rattle.capture_survey.proofs.Running.{has_all, has_begun, has_failed, has_more, may_count}
use Rattle.capture_survey.proofs.read.read_records.Goals as goal

pub records-init : goal.records-init
records-init g c = has_begun c.args.tap c.args.source.now c.none-tally.result c.requires.open (c.none-tally.ensures c.args.tap)

pub returns-in-Err-clause-told : goal.returns-in-Err-clause-told
returns-in-Err-clause-told g c =
    λ text reading.
    subst (λ f. ReadsAll c.args.tap text c.fill.new.self.standing (Err f)) (sym c.source_fault.ensures)
    (has_failed c.args.tap c.args.source.now c.records.source c.fill.new.self c.records.tally text c.in-Err.fault c.records.invariant c.in-Err.ensures.filled c.in-Err.ensures.answer reading)

pub returns-in_default-head-clause-told : goal.returns-in_default-head-clause-told
returns-in_default-head-clause-told g c =
    λ text reading.
    has_all c.args.tap c.args.source.now c.records.source c.fill.new.self c.records.tally text c.records.invariant c.in_default.ensures.filled c.in_default.ensures.answer
    (sym c.in_default-head.ensures.record) reading

pub add-requires : goal.add-requires
add-requires g c =
    may_count c.args.tap c.args.source.now c.records.source c.fill.new.self c.records.tally c.records.invariant (c.in_default.ensures.lends (search rules)) c.requires.most

pub records-preserved : goal.records-preserved
records-preserved g c =
    has_more c.args.tap c.args.source.now c.records.source c.fill.new.self c.records.tally c.add.new.self _ c.records.invariant c.in_default.ensures.filled
    (sym c.in-Some.ensures.record) (c.in_default.ensures.lends (search rules)) c.add.ensures
