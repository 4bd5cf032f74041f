use Rattle.std.proofs.Common.{subst}
use Rattle.timeline.specs.declared.source.Tap.{Tap}
use Rattle.timeline.specs.declared.source.Tap.TheVariants.{Port, Underlay}
use Rattle.part_merge.specs.Blame.{SinkWrites}
use Rattle.part_merge.proofs.Blaming.{underlay_reads, underlay_writes}
use Rattle.part_merge.proofs.Moving.{underlay_moved}
use Rattle.part_merge.proofs.Waits.{port_waits, underlay_waits}
use Rattle.part_merge.proofs.records.copy_at.Goals as goal

pub returns-in-Port-clause-copied : goal.returns-in-Port-clause-copied
returns-in-Port-clause-copied g c = rw c.in-Port.is (λ text rest at written left. c.copy_port.ensures.copied text rest c.args.underlay.now c.args.underlay_sink.now at written left)

pub returns-in-Underlay-clause-copied : goal.returns-in-Underlay-clause-copied
returns-in-Underlay-clause-copied g c =
    rw c.in-Underlay.is
    (λ text rest at written left.
    underlay_moved c.args.ports.now c.args.underlay.now c.copy_record.new.capture c.args.port_sinks.now c.args.underlay_sink.now c.copy_record.new.sink text rest c.copy_record.result left
    (c.copy_record.ensures.copied text (rest Underlay) written (left Underlay tt)))

pub returns-in-Port-clause-reads : goal.returns-in-Port-clause-reads
returns-in-Port-clause-reads g c = c.copy_port.ensures.reads c.args.underlay.now

pub returns-in-Port-clause-writes : goal.returns-in-Port-clause-writes
returns-in-Port-clause-writes g c = λ failures. c.copy_port.ensures.writes c.args.underlay_sink.now failures

pub returns-in-Underlay-clause-reads : goal.returns-in-Underlay-clause-reads
returns-in-Underlay-clause-reads g c = underlay_reads c.args.part c.args.ports.now c.args.underlay.now c.copy_record.new.capture c.copy_record.result c.copy_record.ensures.reads

pub returns-in-Underlay-clause-writes : goal.returns-in-Underlay-clause-writes
returns-in-Underlay-clause-writes g c = λ failures.
    underlay_writes c.args.port_sinks.now c.args.underlay_sink.now c.copy_record.new.sink failures c.copy_record.result
    (subst (λ (t : Tap). SinkWrites t c.args.underlay_sink.now c.copy_record.new.sink c.copy_record.result) c.in-Underlay.is c.copy_record.ensures.writes)

pub returns-in-Port-clause-waits : goal.returns-in-Port-clause-waits
returns-in-Port-clause-waits g c =
    rw c.in-Port.is
    (port_waits c.args.ports.now c.args.underlay.now (Port c.in-Port.port) c.args.port_sinks.now c.copy_port.new.port_sinks c.args.underlay_sink.now c.copy_port.result (c.copy_port.ensures.waits c.args.underlay.now))

pub returns-in-Underlay-clause-waits : goal.returns-in-Underlay-clause-waits
returns-in-Underlay-clause-waits g c =
    rw c.in-Underlay.is
    (underlay_waits c.args.ports.now c.args.underlay.now c.args.port_sinks.now c.args.underlay_sink.now c.copy_record.new.sink c.copy_record.result c.copy_record.ensures.waits)
