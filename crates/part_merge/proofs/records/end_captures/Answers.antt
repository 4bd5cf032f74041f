use Rattle.std.proofs.Common.{◌≡◌, ◌≢◌, ◌∙◌, ◌+◌, ◌-◌, ◌<◌, [], refl, sym, ap, subst, Err, length, slice_index_or, arith}
use Rattle.std.proofs.lemmas.List.{get_or_default, get_or-set_other, length-set}
use Rattle.timeline.specs.declared.source.Tap.TheVariants.{Port, Underlay}
use Rattle.part_merge.specs.Left.{IsDeviceFault, IsLeft}
use Rattle.part_merge.specs.declared.fault.MergeFault.{MergeFault}
use Rattle.part_merge.specs.Blame.{BlamesNoWrite, SourceReads, source_health}
use Rattle.part_merge.proofs.Blaming.{captures_behind, end_no_write, healths, place_reads, same_set, stopped_reads, underlay_reads}
use Rattle.part_merge.proofs.Copying.{device_fault}
use Rattle.part_merge.proofs.records.end_captures.Goals as goal

pub returns-in-Err-clause-ended : goal.returns-in-Err-clause-ended
returns-in-Err-clause-ended g c = λ left.
    let i = c.loop-i.i in
    let there : i < length c.args.ports.now = omega (arith, c.loop-i-test.true, c.loop-i.invariant.same) in
    let index : i + 1 - 1 ≡ i = omega arith in
    let here = left (Port (i + 1)) (omega arith, omega (arith, there)) in
    let same = c.loop-i.invariant.others c.index-ports-i.result i (omega arith) ∙ get_or_default c.args.ports.now i c.index-ports-i.result c.args.underlay.now there
    ∙ ap (λ k. slice_index_or c.args.ports.now k c.args.underlay.now) (sym index) in
    subst IsDeviceFault (sym c.stopped_at.ensures) (device_fault c.args.part _ c.in-Err.stop (c.in-Err.ensures.ended (subst (IsLeft []) (sym same) here)))

pub returns-in-Err-end-clause-ended : goal.returns-in-Err-end-clause-ended
returns-in-Err-end-clause-ended g c = λ left.
    subst IsDeviceFault (sym c.stopped_at-in-Err-end.ensures) (device_fault c.args.part Underlay c.in-Err-end.stop (c.in-Err-end.ensures.ended (left Underlay tt)))

pub returns-in-Err-clause-reads : goal.returns-in-Err-clause-reads
returns-in-Err-clause-reads g c =
    let i = c.loop-i.i in
    let there : i < length c.loop-i.ports = omega (arith, c.loop-i-test.true, c.loop-i.invariant.same) in
    captures_behind {T = Unit {0}} c.args.part c.args.ports.now c.args.underlay.now c.loop-i.ports c.args.underlay.now _ c.args.underlay.now (Err c.stopped_at.result) (ap (λ l. healths l (source_health c.args.underlay.now)) c.loop-i.invariant.reads)
    (place_reads {T = Unit {0}} c.args.part c.loop-i.ports c.args.underlay.now c.end.new.self c.index-ports-i.result i (Err c.stopped_at.result) there
    (subst (λ (f : MergeFault). SourceReads {T = Unit {0}} c.args.part (slice_index_or c.loop-i.ports i c.index-ports-i.result) c.end.new.self (Err f)) (sym c.stopped_at.ensures)
    (stopped_reads c.args.part _ (slice_index_or c.loop-i.ports i c.index-ports-i.result) c.end.new.self c.in-Err.stop c.in-Err.ensures.reads)))

pub returns-in-Err-clause-no_write : goal.returns-in-Err-clause-no_write
returns-in-Err-clause-no_write g c = subst (λ (f : MergeFault). BlamesNoWrite {T = Unit {0}} (Err f)) (sym c.stopped_at.ensures) (end_no_write c.args.part _ c.end.new.self c.in-Err.stop c.in-Err.ensures.told)

pub returns-in-Ok-clause-reads : goal.returns-in-Ok-clause-reads
returns-in-Ok-clause-reads g c = rw (c.loop-i.invariant.reads, c.in-Ok.ensures.reads) refl

pub returns-in-Err-end-clause-reads : goal.returns-in-Err-end-clause-reads
returns-in-Err-end-clause-reads g c =
    captures_behind {T = Unit {0}} c.args.part c.args.ports.now c.args.underlay.now c.loop-i.ports c.args.underlay.now c.loop-i.ports c.end-2.new.self (Err c.stopped_at-in-Err-end.result) (ap (λ l. healths l (source_health c.args.underlay.now)) c.loop-i.invariant.reads)
    (underlay_reads {T = Unit {0}} c.args.part c.loop-i.ports c.args.underlay.now c.end-2.new.self (Err c.stopped_at-in-Err-end.result)
    (subst (λ (f : MergeFault). SourceReads {T = Unit {0}} c.args.part c.args.underlay.now c.end-2.new.self (Err f)) (sym c.stopped_at-in-Err-end.ensures)
    (stopped_reads c.args.part Underlay c.args.underlay.now c.end-2.new.self c.in-Err-end.stop c.in-Err-end.ensures.reads)))

pub returns-in-Err-end-clause-no_write : goal.returns-in-Err-end-clause-no_write
returns-in-Err-end-clause-no_write g c =
    subst (λ (f : MergeFault). BlamesNoWrite {T = Unit {0}} (Err f)) (sym c.stopped_at-in-Err-end.ensures) (end_no_write c.args.part Underlay c.end-2.new.self c.in-Err-end.stop c.in-Err-end.ensures.told)

pub loop-i-preserved : goal.loop-i-preserved
loop-i-preserved g c = record {
  others = λ s k le.
      let apart : k ≢ c.loop-i.i = λ e. omega (arith, e, le) in
      get_or-set_other c.loop-i.ports c.loop-i.i k c.end.new.self s apart ∙ c.loop-i.invariant.others s k (omega (arith, le));
  same = length-set c.loop-i.ports c.loop-i.i c.end.new.self ∙ c.loop-i.invariant.same;
  reads = same_set source_health c.loop-i.ports c.loop-i.i c.end.new.self c.index-ports-i.result (omega (arith, c.loop-i-test.true, c.loop-i.invariant.same)) c.in_default.ensures.reads ∙ c.loop-i.invariant.reads;
}
