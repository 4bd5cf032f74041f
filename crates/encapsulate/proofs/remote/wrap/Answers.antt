use Rattle.std.proofs.Common.{◌∙◌, ap, Result, Ok}
use Rattle.wire.specs.declared.ether.reason.Reason.{Reason}
use Rattle.encapsulate.specs.Emission.{Parts}
use Rattle.encapsulate.proofs.PartsLemmas.{parts-sent, parts-refused}
use Rattle.encapsulate.proofs.remote.wrap.Goals as goal

pub returns-in_err-put_head-clause-exact : goal.returns-in_err-put_head-clause-exact
returns-in_err-put_head-clause-exact c =
    parts-refused c.args.under.now c.args.vid c.args.kind c.args.addr c.args.frame.now c.in_err-put_head.field-0.0 c.from_residual.result c.from_residual.ensures.1 c.in_err-put_head.ensures.sent

pub returns-clause-exact : goal.returns-clause-exact
returns-clause-exact c =
    let r : Result (Unit {0}) Reason = Ok c.in_ok-put_head.field-0 in
    ap (λ (e : Parts). Ok e) c.behind.ensures
    ∙ parts-sent c.args.under.now c.args.vid c.args.kind c.args.addr c.args.frame.now c.put_head.new.head.items r c.in_ok-put_head.ensures.sent
