use Rattle.std.proofs.Common.{◌≤◌, sym, ap, subst}
use Rattle.endpoint_core.specs.State.{State as Bridges}
use Rattle.endpoint_core.proofs.LaterLemmas.{held-later}
use Rattle.endpoint_core.specs.Cells.{count_in}
use Rattle.endpoint_core.specs.Kept.{Kept}
use Rattle.endpoint_core.specs.Step.{State}
use Rattle.endpoint_core.proofs.endpoint.Endpoint.pass.Goals as goal

pub returns : goal.returns
returns c =
    let later = subst (λ (k : Kept). k.moment ≤ c.args.now) (sym c.self.view_is) c.requires in
    rw (← c.self.view_is) (ap (λ (B : Bridges). let s : State = record { bridges = B; counts = count_in c.self.inside.counts; moment = c.args.now } in s) (held-later c.self.inside.state c.self.inside.moment c.args.now later))
