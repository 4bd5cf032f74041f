use Rattle.std.proofs.Common.{◌∙◌, [], sym, ap, subst, Ok, Err}
use Rattle.pcap.specs.Source.{ends_cut, lent}
use Rattle.part_merge.specs.Copied.{IsDeviceStop}
use Rattle.part_merge.specs.Left.{IsLeft}
use Rattle.part_merge.proofs.Blaming.{filled_reads, unfilled_reads}
use Rattle.part_merge.proofs.Copying.{ends, err_stop, filled, sound_nothing}
use Rattle.part_merge.proofs.capture.PartCapture.end.Goals as goal

pub returns-in-Err-clause-ended : goal.returns-in-Err-clause-ended
returns-in-Err-clause-ended g c = λ left.
    let before = subst (IsLeft []) (sym c.self.view_is) left in
    subst IsDeviceStop (sym c.stop_by.ensures) (err_stop [] c.fill.new.self c.in-Err.fault sound_nothing (filled [] c.self.inside.source c.fill.new.self (Err c.in-Err.fault) before c.in-Err.ensures.filled) c.in-Err.ensures.answer)

pub returns-in-Some-clause-ended : goal.returns-in-Some-clause-ended
returns-in-Some-clause-ended g c = λ left.
    let before = subst (IsLeft []) (sym c.self.view_is) left in
    let stands = ends c.fill.new.self (filled [] c.self.inside.source c.fill.new.self (Ok c.in_default.field-0) before c.in_default.ensures.filled) in
    let none = sym c.in-Some.is ∙ c.head.ensures.record ∙ ap lent stands in
    absurd cc

pub returns-then-is_cut-clause-ended : goal.returns-then-is_cut-clause-ended
returns-then-is_cut-clause-ended g c = λ left.
    let before = subst (IsLeft []) (sym c.self.view_is) left in
    let stands = ends c.fill.new.self (filled [] c.self.inside.source c.fill.new.self (Ok c.in_default.field-0) before c.in_default.ensures.filled) in
    let cut = sym c.if-is_cut.true ∙ c.is_cut.ensures ∙ ap ends_cut stands in
    absurd cc

pub returns-in-Err-clause-reads : goal.returns-in-Err-clause-reads
returns-in-Err-clause-reads g c =
    unfilled_reads c.args.self.now c.self.inside.source c.fill.new.self c.in-Err.fault c.stop_by.result c.self.view_is c.stop_by.ensures c.in-Err.ensures.filled c.in-Err.ensures.answer

pub returns-in-Some-clause-reads : goal.returns-in-Some-clause-reads
returns-in-Some-clause-reads g c = filled_reads c.args.self.now c.self.inside.source c.fill.new.self c.in_default.field-0 c.self.view_is c.in_default.ensures.filled c.in_default.ensures.answer

pub returns-then-is_cut-clause-reads : goal.returns-then-is_cut-clause-reads
returns-then-is_cut-clause-reads g c = filled_reads c.args.self.now c.self.inside.source c.fill.new.self c.in_default.field-0 c.self.view_is c.in_default.ensures.filled c.in_default.ensures.answer

pub returns-clause-reads : goal.returns-clause-reads
returns-clause-reads g c = filled_reads c.args.self.now c.self.inside.source c.fill.new.self c.in_default.field-0 c.self.view_is c.in_default.ensures.filled c.in_default.ensures.answer
