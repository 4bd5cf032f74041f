use Rattle.std.proofs.Common.{Ok, Err, refl, ap, map}
use Rattle.pcap.specs.declared.stream.fault.WriteFault.{WriteFault}
use Rattle.timeline.specs.declared.source.Tap.TheVariants.{Underlay}
use Rattle.part_merge.specs.Blame.{sink_health}
use Rattle.part_merge.specs.declared.fault.MergeFault.TheVariants as faults
use Rattle.part_merge.specs.declared.fault.Target.TheVariants as targets
use Rattle.part_merge.proofs.Blaming.{health, healths, underlay_writes}
use Rattle.part_merge.proofs.Handing.{handed_on, handed_writes}
use Rattle.part_merge.proofs.hand_on.hand_on_underlay.Goals as goal

pub returns-in-Ok-clause-kept : goal.returns-in-Ok-clause-kept
returns-in-Ok-clause-kept g c = (handed_on {E = WriteFault} c.args.underlay_sink.now c.hand_on_held.new.self (Ok c.in-Ok.field-0) c.in-Ok.ensures).0

pub returns-in-Ok-clause-writes : goal.returns-in-Ok-clause-writes
returns-in-Ok-clause-writes g c = λ sinks failures.
    ap (λ u. health failures (healths (map sink_health sinks) u)) (handed_writes {E = WriteFault} c.args.underlay_sink.now c.hand_on_held.new.self (Ok c.in-Ok.field-0) c.in-Ok.ensures)

pub returns-in-Err-clause-writes : goal.returns-in-Err-clause-writes
returns-in-Err-clause-writes g c = λ sinks failures.
    underlay_writes {T = Unit {0}} sinks c.args.underlay_sink.now c.hand_on_held.new.self failures (Err (faults.Write (targets.Capture Underlay)))
    (refl, handed_writes {T = Unit {0}} c.args.underlay_sink.now c.hand_on_held.new.self (Err c.in-Err.field-0) c.in-Err.ensures)

pub returns-in-Ok-clause-out : goal.returns-in-Ok-clause-out
returns-in-Ok-clause-out g c = (handed_on {E = WriteFault} c.args.underlay_sink.now c.hand_on_held.new.self (Ok c.in-Ok.field-0) c.in-Ok.ensures).1
