use Rattle.std.proofs.Common.{◌≡◌, length, arith}
use Rattle.part_merge.proofs.Blaming.{writes_behind}
use Rattle.part_merge.proofs.Handing.{all_kept, unless_then}
use Rattle.part_merge.proofs.Waits.{captures_out}
use Rattle.part_merge.proofs.hand_on.hand_on_captures.Goals as goal

pub returns-in-Err-clause-writes : goal.returns-in-Err-clause-writes
returns-in-Err-clause-writes g c = λ failures. c.in-Err.ensures.writes c.args.underlay_sink.now failures

pub returns-clause-kept : goal.returns-clause-kept
returns-clause-kept g c =
    let many : length c.hand_on_ports.new.port_sinks ≡ length c.args.port_sinks.now = omega (arith, c.hand_on_ports.auto.port_sinks) in
    unless_then c.hand_on_underlay.result _ _ c.hand_on_underlay.ensures.kept
    (λ kept. all_kept c.args.port_sinks.now c.hand_on_ports.new.port_sinks c.args.underlay_sink.now c.hand_on_underlay.new.underlay_sink many c.in_default.ensures.kept kept)

pub returns-clause-out : goal.returns-clause-out
returns-clause-out g c = captures_out c.hand_on_ports.new.port_sinks c.hand_on_underlay.new.underlay_sink c.hand_on_underlay.result c.in_default.ensures.out c.hand_on_underlay.ensures.out

pub returns-clause-writes : goal.returns-clause-writes
returns-clause-writes g c = λ failures.
    writes_behind c.args.port_sinks.now c.args.underlay_sink.now failures c.hand_on_ports.new.port_sinks c.args.underlay_sink.now failures c.hand_on_ports.new.port_sinks c.hand_on_underlay.new.underlay_sink failures
    c.hand_on_underlay.result (c.in_default.ensures.writes c.args.underlay_sink.now failures) (c.hand_on_underlay.ensures.writes c.hand_on_ports.new.port_sinks failures)
