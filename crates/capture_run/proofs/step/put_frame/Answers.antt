use Rattle.std.proofs.Common.{◌∙◌, ap}
use Rattle.endpoint_core.specs.Event.{frame_at}
use Rattle.endpoint_core.specs.Kept.{state_of}
use Rattle.endpoint_core.specs.Step.{after}
use Rattle.timeline.specs.Captured.{Captured}
use Rattle.capture_run.proofs.step.put_frame.Goals as goal

pub returns-clause-state : goal.returns-clause-state
returns-clause-state c =
    c.take_frame-forwarding.ensures.after
    ∙ ap (λ (f : Captured). after (state_of c.args.endpoint.now) (frame_at c.args.event.now.moment c.args.port f.original f.octets)) c.frame.view_is
