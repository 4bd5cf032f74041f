use Rattle.part_merge.proofs.Blaming.{writes_behind}
use Rattle.part_merge.proofs.Handing.{unless_then}
use Rattle.part_merge.proofs.Waits.{all_out}
use Rattle.part_merge.proofs.hand_on.hand_on_all.Goals as goal

pub returns-in-Err-clause-writes : goal.returns-in-Err-clause-writes
returns-in-Err-clause-writes g c = c.in-Err.ensures.writes (g.W.Output.failures c.args.decisions.now)

pub returns-clause-kept : goal.returns-clause-kept
returns-clause-kept g c = unless_then c.hand_on_lines.result _ _ c.hand_on_lines.ensures.kept (λ lines. (c.in_default.ensures.kept, lines))

pub returns-clause-out : goal.returns-clause-out
returns-clause-out g c =
    all_out c.hand_on_captures.new.port_sinks c.hand_on_captures.new.underlay_sink (g.W.Output.held c.hand_on_lines.new.decisions) c.hand_on_lines.result c.in_default.ensures.out c.hand_on_lines.ensures.out

pub returns-clause-writes : goal.returns-clause-writes
returns-clause-writes g c =
    let failures = g.W.Output.failures c.args.decisions.now in
    writes_behind c.args.port_sinks.now c.args.underlay_sink.now failures c.hand_on_captures.new.port_sinks c.hand_on_captures.new.underlay_sink failures c.hand_on_captures.new.port_sinks
    c.hand_on_captures.new.underlay_sink (g.W.Output.failures c.hand_on_lines.new.decisions) c.hand_on_lines.result (c.in_default.ensures.writes failures)
    (c.hand_on_lines.ensures.writes c.hand_on_captures.new.port_sinks c.hand_on_captures.new.underlay_sink)
