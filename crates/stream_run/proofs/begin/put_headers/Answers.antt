use Rattle.std.proofs.Common.{◌≡◌, ◌∙◌, ap, arith, length, refl}
use Rattle.stream_run.specs.Stage.{Drains}
use Rattle.stream_run.proofs.Beginning.{begun_all, begun_more, begun_part, none_begun, with_ports}
use Rattle.stream_run.proofs.begin.put_headers.Goals as goal

pub begin_port-requires-clause-there : goal.begin_port-requires-clause-there
begin_port-requires-clause-there g c =
    let many : c.len-index-end.result ≡ length c.args.outputs.now.ports = c.len-index-end.ensures ∙ c.outputs.inside.ports.ok.0 ∙ ap (λ (d : Drains). length d.ports) c.outputs.view_is in
    omega (arith, c.loop-index-test.true, c.loop-index.invariant.many, many)

pub begin_port-requires-clause-few : goal.begin_port-requires-clause-few
begin_port-requires-clause-few g c =
    let many : c.len-index-end.result ≡ length c.args.outputs.now.ports = c.len-index-end.ensures ∙ c.outputs.inside.ports.ok.0 ∙ ap (λ (d : Drains). length d.ports) c.outputs.view_is in
    omega (arith, c.loop-index-test.true, many, c.requires)

pub loop-index-init : goal.loop-index-init
loop-index-init g c = record { many = refl; begun = λ start at. none_begun (length c.args.outputs.now.ports) start c.args.outputs.now at }

pub returns-in-Err : goal.returns-in-Err
returns-in-Err g c start at =
    let many : c.len-index-end.result ≡ length c.args.outputs.now.ports = c.len-index-end.ensures ∙ c.outputs.inside.ports.ok.0 ∙ ap (λ (d : Drains). length d.ports) c.outputs.view_is in
    let so_far = c.loop-index.invariant.begun start at in
    let lead = c.in-Err.ensures.begun start (with_ports so_far.texts) so_far.stand in
    (begun_part (length c.args.outputs.now.ports) c.loop-index.index start c.loop-index.outputs c.begin_port.new.outputs so_far (omega (arith, c.loop-index-test.true, many)) lead.0, lead.1)

pub loop-index-preserved : goal.loop-index-preserved
loop-index-preserved g c =
    let many : c.len-index-end.result ≡ length c.args.outputs.now.ports = c.len-index-end.ensures ∙ c.outputs.inside.ports.ok.0 ∙ ap (λ (d : Drains). length d.ports) c.outputs.view_is in
    record {
      many = c.in_default.ensures.many ∙ c.loop-index.invariant.many;
      begun = λ start at.
          let so_far = c.loop-index.invariant.begun start at in
          begun_more (length c.args.outputs.now.ports) c.loop-index.index start c.loop-index.outputs c.begin_port.new.outputs so_far (omega (arith, c.loop-index-test.true, many)) (c.in_default.ensures.begun start (with_ports so_far.texts) so_far.stand);
    }

pub returns : goal.returns
returns g c start at =
    let many : c.len-index-end.result ≡ length c.args.outputs.now.ports = c.len-index-end.ensures ∙ c.outputs.inside.ports.ok.0 ∙ ap (λ (d : Drains). length d.ports) c.outputs.view_is in
    let so_far = c.loop-index.invariant.begun start at in
    begun_all {T = Unit {0}} (length c.args.outputs.now.ports) c.loop-index.index start c.loop-index.outputs c.begin_underlay.new.outputs c.begin_underlay.result so_far (omega (arith, c.loop-index-test.false, c.loop-index.auto.index-end, many)) (c.begin_underlay.ensures start (with_ports so_far.texts) so_far.stand)
