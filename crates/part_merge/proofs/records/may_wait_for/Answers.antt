use Rattle.std.proofs.Common.{◌∙◌, sym, ap, not}
use Rattle.std.proofs.lemmas.Bool.{not-true}
use Rattle.part_merge.proofs.Waits.{lacks_underlay}
use Rattle.part_merge.proofs.records.may_wait_for.Goals as goal

pub returns-in-Port-clause-unless : goal.returns-in-Port-clause-unless
returns-in-Port-clause-unless g c = rw c.in-Port.is (λ is may takes. c.port_takes_read.ensures.unless c.args.underlay.now is takes)

pub returns-in-Port-clause-only : goal.returns-in-Port-clause-only
returns-in-Port-clause-only g c = rw c.in-Port.is (λ is. (c.if-not-may_wait.false, c.port_takes_read.ensures.only c.args.underlay.now is))

pub returns-in-Underlay-clause-unless : goal.returns-in-Underlay-clause-unless
returns-in-Underlay-clause-unless g c = rw c.in-Underlay.is (λ is may takes. lacks_underlay c.args.ports.now c.args.underlay.now (ap not (sym c.holds_next.ensures) ∙ is) takes)

pub returns-in-Underlay-clause-only : goal.returns-in-Underlay-clause-only
returns-in-Underlay-clause-only g c = rw c.in-Underlay.is (λ is. (c.if-not-may_wait.false, (tt, sym c.holds_next.ensures ∙ not-true _ is)))
