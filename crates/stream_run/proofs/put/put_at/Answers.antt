use Rattle.std.proofs.Common.{◌≡◌, ◌∙◌, ◌<◌, ◌-◌, ◌==◌, ◌++◌, ap, sym, subst, false, arith, length, Ok, Err, inl}
use Rattle.std.proofs.lemmas.Bool.{ne_eqb}
use Rattle.pcap.specs.Written.{whole_frame, written_record}
use Rattle.pcap.specs.Sink.{Drain, IsPut}
use Rattle.pcap.specs.declared.stream.fault.WriteFault.{WriteFault}
use Rattle.stream_run.specs.Stage.{Drains, StandAt}
use Rattle.stream_run.proofs.Standing.{ports_put}
use Rattle.stream_run.proofs.put.put_at.Goals as goal

pub returns : goal.returns
returns g c start o at =
    let stood = subst (λ (d : Drains). StandAt start d o) (sym c.outputs.view_is) at in
    let index : c.from-2.result - 1 ≡ c.args.port - 1 = ap (λ n. n - 1) c.from-2.ensures in
    let many : c.len.result ≡ length c.outputs.inside.ports.items = c.len.ensures ∙ c.outputs.inside.ports.ok.0 in
    let there : c.from-2.result - 1 < length c.outputs.inside.ports.items = omega (arith, c.from.ensures, c.if-from-len.false, many, c.from-2.ensures, c.if-port-eq0.false) in
    let apart : (c.args.port == 0) ≡ false = ne_eqb c.args.port 0 c.if-port-eq0.false in
    let put = ports_put {E = WriteFault} start.ports c.outputs.inside.ports.items (c.from-2.result - 1) _ c.put.new.self o.ports (written_record (whole_frame c.args.moment (c.args.addresses.now ++ (c.args.tag.now ++ c.args.body.now))))
    (Ok c.in_default.field-0) there (subst (λ (d : Drain). IsPut {E = WriteFault} d c.put.new.self (written_record (whole_frame c.args.moment (c.args.addresses.now ++ (c.args.tag.now ++ c.args.body.now)))) (Ok c.in_default.field-0)) c.index_mut.ensures.value c.in_default.ensures) stood.between.ports stood.well.ports in
    rw (apart, ← index) (record {
      between = record { ports = put.0; underlay = stood.between.underlay; decisions = stood.between.decisions; order = inl stood.between.decisions };
      well = record { ports = put.1; underlay = stood.well.underlay; decisions = stood.well.decisions };
    })

pub returns-in-Err : goal.returns-in-Err
returns-in-Err g c start o at =
    let stood = subst (λ (d : Drains). StandAt start d o) (sym c.outputs.view_is) at in
    let index : c.from-2.result - 1 ≡ c.args.port - 1 = ap (λ n. n - 1) c.from-2.ensures in
    let many : c.len.result ≡ length c.outputs.inside.ports.items = c.len.ensures ∙ c.outputs.inside.ports.ok.0 in
    let there : c.from-2.result - 1 < length c.outputs.inside.ports.items = omega (arith, c.from.ensures, c.if-from-len.false, many, c.from-2.ensures, c.if-port-eq0.false) in
    let apart : (c.args.port == 0) ≡ false = ne_eqb c.args.port 0 c.if-port-eq0.false in
    let put = ports_put {T = Unit {0}} start.ports c.outputs.inside.ports.items (c.from-2.result - 1) _ c.put.new.self o.ports (written_record (whole_frame c.args.moment (c.args.addresses.now ++ (c.args.tag.now ++ c.args.body.now))))
    (Err c.in-Err.field-0) there (subst (λ (d : Drain). IsPut {T = Unit {0}} d c.put.new.self (written_record (whole_frame c.args.moment (c.args.addresses.now ++ (c.args.tag.now ++ c.args.body.now)))) (Err c.in-Err.field-0)) c.index_mut.ensures.value c.in-Err.ensures) stood.between.ports stood.well.ports in
    rw (apart, ← index) (
      record { ports = put.0; underlay = stood.between.underlay; decisions = stood.between.decisions; order = inl stood.between.decisions },
      λ d. (omega (arith, c.if-port-eq0.false), omega (arith, there, c.from-2.ensures, stood.between.ports.many), put.1 d),
    )
