use Rattle.std.proofs.Common.{◌∙◌, subst, None}
use Rattle.endpoint_core.specs.Decision.{refused_as}
use Rattle.endpoint_core.specs.Step.{Decided}
use Rattle.capture_run.specs.Writing.{with_line}
use Rattle.stream_run.specs.Stage.{Lead}
use Rattle.stream_run.proofs.Amidst.{put_at_line}
use Rattle.stream_run.proofs.put.put_forwarding.Goals as goal

pub returns-in-Err-clause-order : goal.returns-in-Err-clause-order
returns-in-Err-clause-order g c start o at =
    let new = c.put_line.new.outputs in
    let answer = Decided (refused_as c.in-Err.refused) in
    let lead : Lead {T = Unit {0}} start new o (with_line o c.text.result.now) c.put_line.result = c.put_line.ensures.line start o at in
    let order = put_at_line c.args.scratch.now.number None o c.args.event.now answer start new c.put_line.result
    (subst (λ l. Lead {T = Unit {0}} start new o (with_line o l) c.put_line.result) (c.text.ensures.value ∙ c.write_drop.ensures) lead) in
    rw c.in-Err.is order

pub returns-in-Ok-clause-outputs : goal.returns-in-Ok-clause-outputs
returns-in-Ok-clause-outputs g c start o at = rw c.in-Ok.is (c.put_forwarded.ensures.outputs start o at)

pub returns-in-Ok-clause-order : goal.returns-in-Ok-clause-order
returns-in-Ok-clause-order g c start o at = rw c.in-Ok.is (c.put_forwarded.ensures.order start o at)
