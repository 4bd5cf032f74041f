use Rattle.std.proofs.Common.{sym, ap, subst}
use Rattle.std.specs.Prelude.{IsSome}
use Rattle.endpoint_core.specs.Settings.{Settings, segment_at}
use Rattle.endpoint_core.specs.State.{State}
use Rattle.endpoint_core.proofs.decide.forward.Goals as goal

pub returns-in-Ok-clause-there : goal.returns-in-Ok-clause-there
returns-in-Ok-clause-there c =
    subst (λ (S : Settings). IsSome (segment_at S c.args.came.now.vid)) (sym (ap (λ (B : State). B.settings) c.step.ensures.after)) c.requires.there

pub returns-in-Err-clause-after : goal.returns-in-Err-clause-after
returns-in-Err-clause-after c = rw (← c.came.view_is) c.in-Err.ensures.after
