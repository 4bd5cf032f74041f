use Rattle.std.proofs.Common.{sym, ◌∙◌, arith}
use Rattle.endpoint_core.proofs.ComingLemmas.{entered-there, entered-short}
use Rattle.endpoint_core.proofs.arrival.come_at.Goals as goal

pub returns-else-begins_tag-clause-there : goal.returns-else-begins_tag-clause-there
returns-else-begins_tag-clause-there c = rw c.at.ensures (entered-there c.args.ports.now c.args.port c.args.octets.now c.in-Ok.entered.0 c.in-Ok.entered.1 (sym c.classify.ensures ∙ c.in-Ok.is))

pub returns-else-begins_tag-clause-short : goal.returns-else-begins_tag-clause-short
returns-else-begins_tag-clause-short c =
    let within = entered-short c.args.ports.now c.args.port c.args.octets.now c.in-Ok.entered.0 c.in-Ok.entered.1 (sym c.classify.ensures ∙ c.in-Ok.is) in
    rw c.at.ensures (omega (arith, within, c.if-octets-gt-LONGEST_FRAME.false))
