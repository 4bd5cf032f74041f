use Rattle.std.proofs.Common.{◌∙◌, ap, sym}
use Rattle.overlay.specs.declared.settings.change.Change.{Change}
use Rattle.endpoint_core.specs.Event.{change_at}
use Rattle.endpoint_core.specs.Kept.{state_of}
use Rattle.endpoint_core.specs.Step.{after}
use Rattle.capture_run.proofs.Changes.{change_there}
use Rattle.stream_run.proofs.take.make_change.Goals as goal

pub returns : goal.returns
returns c =
    c.change.ensures.after ∙ ap (λ (x : Change). after (state_of c.args.endpoint.now) (change_at c.args.moment x)) (sym (change_there c.args.changes.now c.args.index c.index-changes-index.result c.requires.there))
