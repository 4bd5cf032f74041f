use Rattle.std.proofs.Common.{◌∙◌, sym}
use Rattle.endpoint_core.specs.Kept.{state_of}
use Rattle.run_reports.specs.Sought.{foreseen}
use Rattle.run_reports.proofs.Seeking.{reasons_closed}
use Rattle.run_reports.proofs.sought.meet_reasons.Goals as goal

pub returns-then-not-is_any_open-clause-first : goal.returns-then-not-is_any_open-clause-first
returns-then-not-is_any_open-clause-first c = sym ((reasons_closed (foreseen (state_of c.args.endpoint.now) c.args.event.now) c.args.reasons.now (sym c.is_any_open.ensures ∙ c.if-not-is_any_open.true)).0)

pub returns-then-not-is_any_open-clause-met : goal.returns-then-not-is_any_open-clause-met
returns-then-not-is_any_open-clause-met c = sym ((reasons_closed (foreseen (state_of c.args.endpoint.now) c.args.event.now) c.args.reasons.now (sym c.is_any_open.ensures ∙ c.if-not-is_any_open.true)).1)
