use Rattle.std.proofs.Common.{◌≡◌, ◌∙◌, ap, arith, length, refl}
use Rattle.stream_run.specs.Stage.{Drains}
use Rattle.stream_run.proofs.Waiting.{one_more_out}
use Rattle.stream_run.proofs.hand_on.hand_on_ports.Goals as goal

pub hand_on_port-requires-clause-there : goal.hand_on_port-requires-clause-there
hand_on_port-requires-clause-there g c =
    let many : c.len.result ≡ length c.args.outputs.now.ports = c.len.ensures ∙ c.outputs.inside.ports.ok.0 ∙ ap (λ (d : Drains). length d.ports) c.outputs.view_is in
    omega (arith, c.loop-index-test.true, c.loop-index.invariant.many, c.min-index-end.ensures, many)

pub loop-index-init : goal.loop-index-init
loop-index-init g c = record { many = refl; stand = λ start o at. at; out = λ x k low there. absurd (omega arith) }

pub returns-in-Err-clause-handed : goal.returns-in-Err-clause-handed
returns-in-Err-clause-handed g c start o at = c.in-Err.ensures.handed start o (c.loop-index.invariant.stand start o at)

pub loop-index-preserved : goal.loop-index-preserved
loop-index-preserved g c = record {
  many = c.in_default.ensures.many ∙ c.loop-index.invariant.many;
  out = λ x k low there. one_more_out c.loop-index.outputs.ports c.hand_on_port.new.outputs.ports c.loop-index.index (omega (arith, c.in_default.ensures.many)) c.in_default.ensures.out c.in_default.ensures.others c.loop-index.invariant.out x k low there;
  stand = λ start o at. c.in_default.ensures.handed start o (c.loop-index.invariant.stand start o at);
}

pub returns-clause-handed : goal.returns-clause-handed
returns-clause-handed g c start o at = c.loop-index.invariant.stand start o at

pub returns-clause-out : goal.returns-clause-out
returns-clause-out g c x k there few =
    let many : c.len.result ≡ length c.args.outputs.now.ports = c.len.ensures ∙ c.outputs.inside.ports.ok.0 ∙ ap (λ (d : Drains). length d.ports) c.outputs.view_is in
    c.loop-index.invariant.out x k (omega (arith, c.loop-index-test.false, c.loop-index.auto.index-end, c.loop-index.invariant.many, c.min-index-end.ensures, many, there, few)) there
