use Rattle.std.proofs.Common.{sym, subst, Ok, Err, inl}
use Rattle.pcap.specs.Written.{written_header}
use Rattle.pcap.specs.declared.stream.fault.WriteFault.{WriteFault}
use Rattle.stream_run.specs.Stage.{Drains, StandAt}
use Rattle.stream_run.proofs.Standing.{sink_put}
use Rattle.stream_run.proofs.begin.begin_underlay.Goals as goal

pub returns : goal.returns
returns g c start o at =
    let stood = subst (λ (d : Drains). StandAt start d o) (sym c.outputs.view_is) at in
    let put = sink_put {E = WriteFault} start.underlay c.outputs.inside.underlay c.begin.new.self o.underlay written_header (Ok c.in_default.field-0) stood.between.underlay stood.well.underlay c.in_default.ensures in
    record {
      between = record { ports = stood.between.ports; underlay = put.0; decisions = stood.between.decisions; order = inl stood.between.decisions };
      well = record { ports = stood.well.ports; underlay = put.1; decisions = stood.well.decisions };
    }

pub returns-in-Err : goal.returns-in-Err
returns-in-Err g c start o at =
    let stood = subst (λ (d : Drains). StandAt start d o) (sym c.outputs.view_is) at in
    let put = sink_put {T = Unit {0}} start.underlay c.outputs.inside.underlay c.begin.new.self o.underlay written_header (Err c.in-Err.field-0) stood.between.underlay stood.well.underlay c.in-Err.ensures in
    (record { ports = stood.between.ports; underlay = put.0; decisions = stood.between.decisions; order = inl stood.between.decisions }, put.1)
