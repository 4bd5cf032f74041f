use Rattle.std.proofs.Common.{subst}
use Rattle.endpoint_core.specs.Held.{settings_of}
use Rattle.endpoint_core.specs.State.{aged}
use Rattle.endpoint_core.specs.Arrival.{came_at}
use Rattle.endpoint_core.specs.Forwarding.{AreInParts}
use Rattle.endpoint_core.specs.Kept.{Kept, state_of}
use Rattle.endpoint_core.proofs.FewOutlets.{few_slice}
use Rattle.endpoint_core.proofs.PartsLemmas.{in-parts}
use Rattle.endpoint_core.proofs.endpoint.Endpoint.frame.Goals as goal

pub returns-clause-parts : goal.returns-clause-parts
returns-clause-parts c =
    let came = came_at (settings_of c.args.self.now.held).ports (settings_of c.args.self.now.held).overlay c.args.port c.args.original c.args.octets.now in
    subst (λ (k : Kept). AreInParts (settings_of k.held) came c.of.result.outcomes) c.self.view_is
    (in-parts (settings_of c.self.inside.state) came c.take_frame-forwarding.result c.as_slice.result.now c.of.result.outcomes c.take_frame-forwarding.ensures.came c.of.ensures.parts)

pub of-requires-clause-few : goal.of-requires-clause-few
of-requires-clause-few c =
    let told = c.take_frame-forwarding in
    let bridges = (state_of c.args.self.now).bridges in
    few_slice (state_of told.new.self).bridges.settings told.result told.new.places.items c.as_slice.result.now (came_at bridges.settings.ports bridges.settings.overlay c.args.port c.args.original c.args.octets.now) c.args.now (aged c.args.now bridges) c.requires.few told.ensures.came told.ensures.answer c.as_slice.ensures.value
