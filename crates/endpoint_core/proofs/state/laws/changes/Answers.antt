use Rattle.endpoint_core.proofs.ChangeLemmas.{refused-nothing, settings-alone}
use Rattle.endpoint_core.proofs.state.laws.changes.Goals as goal

pub returns : goal.returns
returns c = record { refused = refused-nothing; settings = settings-alone }
