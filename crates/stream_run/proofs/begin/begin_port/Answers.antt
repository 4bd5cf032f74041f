use Rattle.std.proofs.Common.{◌≡◌, ◌<◌, ◌+◌, ◌-◌, arith, sym, subst, length, Ok, Err, inl}
use Rattle.pcap.specs.Written.{written_header}
use Rattle.pcap.specs.Sink.{Drain, IsPut}
use Rattle.pcap.specs.declared.stream.fault.WriteFault.{WriteFault}
use Rattle.stream_run.specs.Stage.{Drains, StandAt}
use Rattle.stream_run.proofs.Standing.{ports_put}
use Rattle.stream_run.proofs.begin.begin_port.Goals as goal

pub returns-clause-begun : goal.returns-clause-begun
returns-clause-begun g c start o at =
    let stood = subst (λ (d : Drains). StandAt start d o) (sym c.outputs.view_is) at in
    let there = subst (λ (d : Drains). c.args.index < length d.ports) (sym c.outputs.view_is) c.requires.there in
    let put = ports_put {E = WriteFault} start.ports c.outputs.inside.ports.items c.args.index _ c.begin.new.self o.ports written_header (Ok c.in_default.field-0) there (subst (λ (d : Drain). IsPut {E = WriteFault} d c.begin.new.self written_header (Ok c.in_default.field-0)) c.index_mut.ensures.value c.in_default.ensures) stood.between.ports stood.well.ports in
    record {
      between = record { ports = put.0; underlay = stood.between.underlay; decisions = stood.between.decisions; order = inl stood.between.decisions };
      well = record { ports = put.1; underlay = stood.well.underlay; decisions = stood.well.decisions };
    }

pub returns-in-Err-clause-begun : goal.returns-in-Err-clause-begun
returns-in-Err-clause-begun g c start o at =
    let stood = subst (λ (d : Drains). StandAt start d o) (sym c.outputs.view_is) at in
    let there = subst (λ (d : Drains). c.args.index < length d.ports) (sym c.outputs.view_is) c.requires.there in
    let index : c.args.index + 1 - 1 ≡ c.args.index = omega arith in
    let put = ports_put {T = Unit {0}} start.ports c.outputs.inside.ports.items c.args.index _ c.begin.new.self o.ports written_header (Err c.in-Err.field-0) there (subst (λ (d : Drain). IsPut {T = Unit {0}} d c.begin.new.self written_header (Err c.in-Err.field-0)) c.index_mut.ensures.value c.in-Err.ensures) stood.between.ports stood.well.ports in (
      record { ports = put.0; underlay = stood.between.underlay; decisions = stood.between.decisions; order = inl stood.between.decisions },
      λ d. (omega arith, omega (arith, there, stood.between.ports.many), rw index (put.1 d)),
    )
