use Rattle.endpoint_core.specs.Kept.{state_of}
use Rattle.endpoint_core.specs.Step.{has_two_tunnels}
use Rattle.stream_run.proofs.put.put_place.Goals as goal

pub returns-in-Local-clause-line : goal.returns-in-Local-clause-line
returns-in-Local-clause-line g c =
    rw c.in-Local.is (c.put_local.ensures.line (has_two_tunnels (state_of c.args.leaving.now.endpoint.now).bridges.settings.overlay c.args.leaving.now.came.now.vid))
