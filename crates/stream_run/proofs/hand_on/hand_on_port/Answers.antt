use Rattle.std.proofs.Common.{◌<◌, ◌∙◌, ap, sym, subst, length, Ok, Err, slice_index_or}
use Rattle.std.proofs.lemmas.List.{get_or-set_same, get_or-set_other}
use Rattle.pcap.specs.Sink.{Drain, IsHandedOn}
use Rattle.pcap.specs.declared.stream.fault.WriteFault.{WriteFault}
use Rattle.stream_run.specs.Stage.{Drains, StandAt}
use Rattle.stream_run.proofs.Handing.{port_handed, port_held}
use Rattle.stream_run.proofs.Waiting.{handed_out}
use Rattle.stream_run.proofs.hand_on.hand_on_port.Goals as goal

pub returns-clause-handed : goal.returns-clause-handed
returns-clause-handed g c start o at =
    let stood = subst (λ (d : Drains). StandAt start d o) (sym c.outputs.view_is) at in
    let there = subst (λ (d : Drains). c.args.index < length d.ports) (sym c.outputs.view_is) c.requires.there in
    port_handed (Unit {0}) WriteFault start o c.outputs.inside.ports.items c.outputs.inside.underlay _ _ _ c.args.index _ c.hand_on_held.new.self there stood c.in_default.field-0 (subst (λ (d : Drain). IsHandedOn {E = WriteFault} d c.hand_on_held.new.self (Ok c.in_default.field-0)) c.index_mut.ensures.value c.in_default.ensures)

pub returns-in-Err-clause-handed : goal.returns-in-Err-clause-handed
returns-in-Err-clause-handed g c start o at =
    let stood = subst (λ (d : Drains). StandAt start d o) (sym c.outputs.view_is) at in
    let there = subst (λ (d : Drains). c.args.index < length d.ports) (sym c.outputs.view_is) c.requires.there in
    port_held (Unit {0}) WriteFault start o c.outputs.inside.ports.items c.outputs.inside.underlay _ _ _ c.args.index _ c.hand_on_held.new.self there stood c.in-Err.field-0 (subst (λ (d : Drain). IsHandedOn {T = Unit {0}} d c.hand_on_held.new.self (Err c.in-Err.field-0)) c.index_mut.ensures.value c.in-Err.ensures)

pub returns-clause-out : goal.returns-clause-out
returns-clause-out g c x =
    let there = subst (λ (d : Drains). c.args.index < length d.ports) (sym c.outputs.view_is) c.requires.there in
    ap (λ (d : Drain). d.held) (get_or-set_same c.outputs.inside.ports.items c.args.index c.hand_on_held.new.self x there) ∙ handed_out WriteFault _ c.hand_on_held.new.self c.in_default.field-0 c.in_default.ensures

pub returns-clause-others : goal.returns-clause-others
returns-clause-others g c x k other =
    get_or-set_other c.outputs.inside.ports.items c.args.index k c.hand_on_held.new.self x other ∙ ap (λ (d : Drains). slice_index_or d.ports k x) c.outputs.view_is

pub returns-in-Err-clause-others : goal.returns-in-Err-clause-others
returns-in-Err-clause-others g c x k other =
    get_or-set_other c.outputs.inside.ports.items c.args.index k c.hand_on_held.new.self x other ∙ ap (λ (d : Drains). slice_index_or d.ports k x) c.outputs.view_is
