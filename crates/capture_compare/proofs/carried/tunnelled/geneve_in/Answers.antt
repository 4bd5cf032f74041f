use Rattle.std.proofs.Common.{◌∙◌, ap, drop}
use Rattle.capture_compare.proofs.Carrying.{geneve-refused, geneve-taken}
use Rattle.capture_compare.proofs.carried.tunnelled.geneve_in.Goals as goal

pub returns-in_default-clause-value : goal.returns-in_default-clause-value
returns-in_default-clause-value c = geneve-refused c.args.source c.args.destination c.args.payload.now c.args.known.now c.in_default.field-0 c.in_default.ensures.fault

pub returns-clause-value : goal.returns-clause-value
returns-clause-value c =
    let d = c.args.payload.now in
    let view = c.in-Ok.view in
    rw (c.vni.ensures, c.payload.ensures)
    (geneve-taken c.args.source c.args.destination d c.args.known.now view.vni view.options view.head c.behind_fixed.result.now view.payload c.in-Ok.ensures.fault
    c.in-Ok.ensures.packet c.in-Ok.ensures.head (c.behind_fixed.ensures ∙ ap (drop 8) c.head.ensures))
