use Rattle.std.proofs.Common.{ap, subst, sym}
use Rattle.pcap.specs.declared.stream.fault.WriteFault.{WriteFault}
use Rattle.stream_run.specs.Stage.{Drains, StandAt}
use Rattle.stream_run.proofs.Handing.{underlay_handed, underlay_held}
use Rattle.stream_run.proofs.Waiting.{handed_out}
use Rattle.stream_run.proofs.hand_on.hand_on_underlay.Goals as goal

pub returns-clause-handed : goal.returns-clause-handed
returns-clause-handed g c start o at =
    underlay_handed (Unit {0}) WriteFault start o c.outputs.inside.ports.items c.outputs.inside.underlay c.hand_on_held.new.self _ _ _ (subst (λ (d : Drains). StandAt start d o) (sym c.outputs.view_is) at) c.in_default.field-0 c.in_default.ensures

pub returns-in-Err-clause-handed : goal.returns-in-Err-clause-handed
returns-in-Err-clause-handed g c start o at =
    underlay_held (Unit {0}) WriteFault start o c.outputs.inside.ports.items c.outputs.inside.underlay c.hand_on_held.new.self _ _ _ (subst (λ (d : Drains). StandAt start d o) (sym c.outputs.view_is) at) c.in-Err.field-0 c.in-Err.ensures

pub returns-clause-out : goal.returns-clause-out
returns-clause-out g c = handed_out WriteFault _ c.hand_on_held.new.self c.in_default.field-0 c.in_default.ensures

pub returns-clause-ports : goal.returns-clause-ports
returns-clause-ports g c = ap (λ (d : Drains). d.ports) c.outputs.view_is

pub returns-in-Err-clause-ports : goal.returns-in-Err-clause-ports
returns-in-Err-clause-ports g c = ap (λ (d : Drains). d.ports) c.outputs.view_is
