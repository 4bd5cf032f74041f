use Rattle.std.proofs.Common.{◌∙◌, sym}
use Rattle.endpoint_core.specs.Kept.{state_of}
use Rattle.talkers.proofs.Counting.{exit_forwarded, exit_refused}
use Rattle.talkers.proofs.talkers.exit_of.Goals as goal

pub returns-in-Ok : goal.returns-in-Ok
returns-in-Ok c = c.exit_to.ensures ∙ sym (exit_forwarded (state_of c.args.endpoint.now).bridges.settings c.args.forwarding.now _ c.args.places.now c.in-Ok.is)

pub returns-in-Err : goal.returns-in-Err
returns-in-Err c = sym (exit_refused (state_of c.args.endpoint.now).bridges.settings c.args.forwarding.now _ c.args.places.now c.in-Err.is)
