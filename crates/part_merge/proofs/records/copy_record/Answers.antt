use Rattle.std.proofs.Common.{◌≡◌, sym, subst, false, Err}
use Rattle.pcap.specs.Source.{holds_next}
use Rattle.part_merge.specs.Blame.{SinkWrites, SourceReads}
use Rattle.part_merge.specs.declared.fault.MergeFault.{MergeFault}
use Rattle.part_merge.proofs.Blaming.{stopped_reads, stopped_writes}
use Rattle.part_merge.proofs.Waits.{stopped_waits}
use Rattle.part_merge.proofs.records.copy_record.Goals as goal

pub returns-in-Err-clause-reads : goal.returns-in-Err-clause-reads
returns-in-Err-clause-reads g c =
    subst (λ (f : MergeFault). SourceReads {T = Unit {0}} c.args.part c.args.capture.now c.copy.new.self (Err f)) (sym c.stopped_at.ensures)
    (stopped_reads c.args.part c.args.tap c.args.capture.now c.copy.new.self c.in-Err.stop c.in-Err.ensures.reads)

pub returns-in-Err-clause-writes : goal.returns-in-Err-clause-writes
returns-in-Err-clause-writes g c =
    subst (λ (f : MergeFault). SinkWrites {T = Unit {0}} c.args.tap c.args.sink.now c.copy.new.sink (Err f)) (sym c.stopped_at.ensures)
    (stopped_writes c.args.part c.args.tap c.args.sink.now c.copy.new.sink c.in-Err.stop c.in-Err.ensures.writes)

pub returns-in-Err-clause-waits : goal.returns-in-Err-clause-waits
returns-in-Err-clause-waits g c =
    rw c.stopped_at.ensures
    (stopped_waits c.args.part c.args.tap c.in-Err.stop ((holds_next c.args.capture.now ≡ false) × (c.copy.new.sink ≡ c.args.sink.now)) c.in-Err.ensures.waits)
