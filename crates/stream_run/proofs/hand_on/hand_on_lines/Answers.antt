use Rattle.std.proofs.Common.{ap, subst, sym}
use Rattle.stream_run.specs.Stage.{Drains, StandAt}
use Rattle.stream_run.proofs.Handing.{lines_handed, lines_held}
use Rattle.stream_run.proofs.hand_on.hand_on_lines.Goals as goal

pub returns-clause-handed : goal.returns-clause-handed
returns-clause-handed g c start o at =
    lines_handed start o c.outputs.inside.ports.items c.outputs.inside.underlay (g.W.Output.written c.outputs.inside.decisions) (g.W.Output.written c.hand_on_held.new.self) (g.W.Output.failures c.outputs.inside.decisions) (g.W.Output.failures c.hand_on_held.new.self) _ _
    (subst (λ (d : Drains). StandAt start d o) (sym c.outputs.view_is) at) c.in_default.ensures.kept c.in_default.ensures.quiet

pub returns-in-Err-clause-handed : goal.returns-in-Err-clause-handed
returns-in-Err-clause-handed g c start o at =
    lines_held start o c.outputs.inside.ports.items c.outputs.inside.underlay (g.W.Output.written c.outputs.inside.decisions) (g.W.Output.written c.hand_on_held.new.self) (g.W.Output.failures c.outputs.inside.decisions) (g.W.Output.failures c.hand_on_held.new.self) _ _
    (subst (λ (d : Drains). StandAt start d o) (sym c.outputs.view_is) at) c.in-Err.ensures.kept c.in-Err.ensures.cause

pub returns-clause-ports : goal.returns-clause-ports
returns-clause-ports g c = ap (λ (d : Drains). d.ports) c.outputs.view_is

pub returns-in-Err-clause-ports : goal.returns-in-Err-clause-ports
returns-in-Err-clause-ports g c = ap (λ (d : Drains). d.ports) c.outputs.view_is

pub returns-clause-underlay : goal.returns-clause-underlay
returns-clause-underlay g c = ap (λ (d : Drains). d.underlay) c.outputs.view_is

pub returns-in-Err-clause-underlay : goal.returns-in-Err-clause-underlay
returns-in-Err-clause-underlay g c = ap (λ (d : Drains). d.underlay) c.outputs.view_is
