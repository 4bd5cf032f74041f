use Rattle.std.proofs.Common.{sym, ap, ◌∙◌}
use Rattle.wire.specs.Ip.{Ip4, Ip6}
use Rattle.encapsulate.specs.Flow.{ports_sum}
use Rattle.encapsulate.proofs.FlowLemmas.{inner-ip4, inner-ip6, inner-none}
use Rattle.encapsulate.proofs.flow.inner_sum.Goals as goal

pub returns-then-shows_flow4-clause-value : goal.returns-then-shows_flow4-clause-value
returns-then-shows_flow4-clause-value c =
    c.ports_sum4.ensures.value ∙ ap (ports_sum Ip4) c.behind_type.ensures ∙ sym (inner-ip4 c.args.body.now (sym c.shows_flow4.ensures ∙ c.if-shows_flow4.true))

pub returns-then-shows_flow6-clause-value : goal.returns-then-shows_flow6-clause-value
returns-then-shows_flow6-clause-value c =
    c.ports_sum6.ensures.value ∙ ap (ports_sum Ip6) c.behind_type-then-shows_flow6.ensures
    ∙ sym (inner-ip6 c.args.body.now (sym c.shows_flow4.ensures ∙ c.if-shows_flow4.false) (sym c.shows_flow6.ensures ∙ c.if-shows_flow6.true))

pub returns-else-shows_flow6-clause-value : goal.returns-else-shows_flow6-clause-value
returns-else-shows_flow6-clause-value c =
    sym (inner-none c.args.body.now (sym c.shows_flow4.ensures ∙ c.if-shows_flow4.false) (sym c.shows_flow6.ensures ∙ c.if-shows_flow6.false))
