use Rattle.std.proofs.Common.{◌∙◌, ◌<◌, ◌+◌, Ok, Err, refl, ap, arith, length, slice_index_or}
use Rattle.pcap.specs.declared.stream.fault.WriteFault.{WriteFault}
use Rattle.timeline.specs.declared.source.Tap.TheVariants.{Port}
use Rattle.part_merge.specs.Blame.{sink_health}
use Rattle.part_merge.specs.declared.fault.MergeFault.TheVariants as faults
use Rattle.part_merge.specs.declared.fault.Target.TheVariants as targets
use Rattle.part_merge.proofs.Blaming.{health, healths, ports_writes, same_set}
use Rattle.part_merge.proofs.Handing.{handed_on, handed_writes, none_handed_yet, one_more_kept, ports_kept}
use Rattle.part_merge.proofs.Waits.{one_more_out}
use Rattle.part_merge.proofs.hand_on.hand_on_ports.Goals as goal

pub loop-i-init : goal.loop-i-init
loop-i-init g c = record { out = λ x k lt. absurd (omega (arith, lt)); kept = none_handed_yet c.args.port_sinks.now; writes = refl }

pub loop-i-preserved : goal.loop-i-preserved
loop-i-preserved g c =
    let sinks = c.loop-i.port_sinks in
    let i = c.loop-i.i in
    let there : i < length sinks = omega (arith, c.loop-i-test.true, c.loop-i.auto.port_sinks) in
    let old = slice_index_or sinks i c.index-port_sinks-i.result in
    let handed = handed_on {E = WriteFault} old c.hand_on_held.new.self (Ok c.in_default.field-0) c.in_default.ensures in
    record {
      out = one_more_out sinks i c.hand_on_held.new.self there c.loop-i.invariant.out handed.1;
      kept = one_more_kept c.args.port_sinks.now sinks i c.index-port_sinks-i.result c.hand_on_held.new.self there c.loop-i.invariant.kept handed.0;
      writes = same_set sink_health sinks i c.hand_on_held.new.self c.index-port_sinks-i.result there (handed_writes {E = WriteFault} old c.hand_on_held.new.self (Ok c.in_default.field-0) c.in_default.ensures) ∙ c.loop-i.invariant.writes;
    }

pub returns-in-Err-clause-writes : goal.returns-in-Err-clause-writes
returns-in-Err-clause-writes g c = λ underlay failures.
    let there : c.loop-i.i < length c.loop-i.port_sinks = omega (arith, c.loop-i-test.true, c.loop-i.auto.port_sinks) in
    ports_writes {T = Unit {0}} c.args.port_sinks.now c.loop-i.port_sinks underlay c.hand_on_held.new.self c.index-port_sinks-i.result failures c.loop-i.i (Err (faults.Write (targets.Capture (Port (c.loop-i.i + 1))))) c.loop-i.invariant.writes there
    (refl, handed_writes {T = Unit {0}} (slice_index_or c.loop-i.port_sinks c.loop-i.i c.index-port_sinks-i.result) c.hand_on_held.new.self (Err c.in-Err.field-0) c.in-Err.ensures)

pub returns-clause-kept : goal.returns-clause-kept
returns-clause-kept g c = λ underlay. ports_kept c.args.port_sinks.now c.loop-i.port_sinks underlay c.loop-i.invariant.kept

pub returns-clause-writes : goal.returns-clause-writes
returns-clause-writes g c = λ underlay failures. ap (λ l. health failures (healths l (sink_health underlay))) c.loop-i.invariant.writes

pub returns-clause-out : goal.returns-clause-out
returns-clause-out g c = λ x k inside few. c.loop-i.invariant.out x k (omega (arith, inside, few, c.loop-i-test.false, c.loop-i.auto.port_sinks))
