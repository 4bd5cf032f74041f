use Rattle.std.proofs.Common.{◌≡◌, ◌≤◌, IfOk, sym, subst}
use Rattle.std.specs.FinMap.{entries}
use Rattle.endpoint_core.specs.State.{State as Bridges}
use Rattle.endpoint_core.proofs.LaterLemmas.{held-later}
use Rattle.endpoint_core.specs.Kept.{Kept}
use Rattle.endpoint_core.proofs.endpoint.Endpoint.entries_at.Goals as goal

pub returns : goal.returns
returns c =
    let later = subst (λ (k : Kept). k.moment ≤ c.args.moment) (sym c.self.view_is) c.requires in
    rw (← c.self.view_is) (subst (λ (B : Bridges). IfOk c.entries.result (λ rows. rows.items ≡ entries (B.tables c.args.vid))) (held-later c.self.inside.state c.self.inside.moment c.args.moment later) c.entries.ensures)
