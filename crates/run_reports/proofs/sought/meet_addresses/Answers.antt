use Rattle.std.proofs.Common.{◌∙◌, sym}
use Rattle.endpoint_core.specs.Kept.{state_of}
use Rattle.run_reports.specs.Sought.{passing_of}
use Rattle.run_reports.proofs.Seeking.{addresses_closed}
use Rattle.run_reports.proofs.sought.meet_addresses.Goals as goal

pub returns-then-not-is_any_away-clause-first : goal.returns-then-not-is_any_away-clause-first
returns-then-not-is_any_away-clause-first c = sym ((addresses_closed (passing_of (state_of c.args.endpoint.now) c.args.event.now.happening) c.args.addresses.now (sym c.is_any_away.ensures ∙ c.if-not-is_any_away.true)).0)

pub returns-then-not-is_any_away-clause-met : goal.returns-then-not-is_any_away-clause-met
returns-then-not-is_any_away-clause-met c = sym ((addresses_closed (passing_of (state_of c.args.endpoint.now) c.args.event.now.happening) c.args.addresses.now (sym c.is_any_away.ensures ∙ c.if-not-is_any_away.true)).1)
