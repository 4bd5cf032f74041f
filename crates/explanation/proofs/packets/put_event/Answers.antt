use Rattle.std.proofs.Common.{rules, ◌≡◌, ◌∙◌, ap, []}
use Rattle.endpoint_core.specs.Event.{packet_at}
use Rattle.endpoint_core.specs.Kept.{state_of}
use Rattle.endpoint_core.specs.Step.{after}
use Rattle.capture_run.specs.Outputs.{event_of}
use Rattle.explanation.proofs.packets.put_event.Goals as goal

pub returns-clause-state : goal.returns-clause-state
returns-clause-state c =
    let is : packet_at c.args.event.now.moment c.captured.inside.original c.captured.inside.octets.now ≡ event_of [] c.args.event.now = search rules in
    c.put_packet.ensures.state ∙ ap (after (state_of c.args.endpoint.now)) is
