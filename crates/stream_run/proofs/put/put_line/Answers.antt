use Rattle.std.proofs.Common.{◌∙◌, ap, sym, subst, false, ℕ, inr}
use Rattle.pcap.specs.Sink.{Drain}
use Rattle.stream_run.specs.Stage.{Drains, StandAt}
use Rattle.stream_run.proofs.Standing.{fails_on, stands_more, stands_part}
use Rattle.stream_run.proofs.put.put_line.Goals as goal

pub returns-clause-line : goal.returns-clause-line
returns-clause-line g c start o at =
    let stood = subst (λ (d : Drains). StandAt start d o) (sym c.outputs.view_is) at in
    let old : Drain = record { written = g.W.Output.written c.outputs.inside.decisions; failures = g.W.Output.failures c.outputs.inside.decisions; is_failed = false; held = g.W.Output.held c.outputs.inside.decisions } in
    let new : Drain = record { written = g.W.Output.written c.write_all.new.self; failures = g.W.Output.failures c.write_all.new.self; is_failed = false; held = g.W.Output.held c.write_all.new.self } in
    record {
      between = record { ports = stood.between.ports; underlay = stood.between.underlay; decisions = stands_more start.decisions old new o.decisions c.args.line.now stood.between.decisions c.in_default.ensures.ok; order = inr (record { ports = stood.between.ports; underlay = stood.between.underlay }) };
      well = record { ports = stood.well.ports; underlay = stood.well.underlay; decisions = ap (λ (n : ℕ). (n, false)) c.in_default.ensures.quiet ∙ stood.well.decisions };
    }

pub returns-in-Err-clause-line : goal.returns-in-Err-clause-line
returns-in-Err-clause-line g c start o at =
    let stood = subst (λ (d : Drains). StandAt start d o) (sym c.outputs.view_is) at in
    let old : Drain = record { written = g.W.Output.written c.outputs.inside.decisions; failures = g.W.Output.failures c.outputs.inside.decisions; is_failed = false; held = g.W.Output.held c.outputs.inside.decisions } in
    let new : Drain = record { written = g.W.Output.written c.write_all.new.self; failures = g.W.Output.failures c.write_all.new.self; is_failed = false; held = g.W.Output.held c.write_all.new.self } in (
      record { ports = stood.between.ports; underlay = stood.between.underlay; decisions = stands_part start.decisions old new o.decisions c.args.line.now stood.between.decisions c.in-Err.ensures.err; order = inr (record { ports = stood.between.ports; underlay = stood.between.underlay }) },
      fails_on start.decisions old new stood.well.decisions c.in-Err.ensures.cause,
    )
