use Rattle.std.proofs.Common.{◌∙◌, None, Some}
use Rattle.endpoint_core.specs.Held.{state_at}
use Rattle.check_on_files.proofs.Refusing.{answered, settings_after}
use Rattle.check_on_files.proofs.foreseen.answer.refuse.Goals as goal

pub returns-in-Ok-clause-fault : goal.returns-in-Ok-clause-fault
returns-in-Ok-clause-fault c = answered (state_at 0 c.args.state.now) c.args.change None c.in-Ok.ensures.fault

pub returns-in-Ok-clause-settings : goal.returns-in-Ok-clause-settings
returns-in-Ok-clause-settings c = settings_after (state_at 0 c.args.state.now) (state_at 0 c.change.new.self) c.args.change c.in-Ok.ensures.after

pub returns-in-Err-clause-fault : goal.returns-in-Err-clause-fault
returns-in-Err-clause-fault c = c.by_settings.ensures ∙ answered (state_at 0 c.args.state.now) c.args.change (Some c.in-Err.fault) c.in-Err.ensures.fault

pub returns-in-Err-clause-settings : goal.returns-in-Err-clause-settings
returns-in-Err-clause-settings c = settings_after (state_at 0 c.args.state.now) (state_at 0 c.change.new.self) c.args.change c.in-Err.ensures.after
