use Rattle.std.proofs.Common.{◌≡◌, ◌≤◌, sym, ap, subst}
use Rattle.wire.specs.First.{fault_of}
use Rattle.endpoint_core.specs.State.{State as Bridges, aged, fault, after_change}
use Rattle.endpoint_core.specs.Held.{state_at}
use Rattle.endpoint_core.specs.Cells.{count_in}
use Rattle.endpoint_core.specs.Kept.{Kept}
use Rattle.endpoint_core.specs.Step.{State, Replied}
use Rattle.endpoint_core.proofs.StepsLemmas.{told-earlier, left-earlier}
use Rattle.endpoint_core.proofs.endpoint.Endpoint.change.Goals as goal

pub returns-clause-answer : goal.returns-clause-answer
returns-clause-answer c =
    let later = subst (λ (k : Kept). k.moment ≤ c.args.now) (sym c.self.view_is) c.requires in
    let answered = told-earlier (λ (B : Bridges). fault B c.args.change) c.self.inside.state c.self.inside.moment c.args.now (fault_of c.change-answer.result) later c.change-answer.ensures.fault in
    subst (λ (k : Kept). Replied (fault_of c.change-answer.result) ≡ Replied (fault (aged c.args.now (state_at k.moment k.held)) c.args.change)) c.self.view_is (ap Replied answered)

pub returns-clause-after : goal.returns-clause-after
returns-clause-after c =
    let later = subst (λ (k : Kept). k.moment ≤ c.args.now) (sym c.self.view_is) c.requires in
    let left = left-earlier (λ (B : Bridges). after_change c.args.now c.args.change B) c.self.inside.state c.change-answer.new.self c.self.inside.moment c.args.now later c.change-answer.ensures.after in
    rw (← c.self.view_is) (ap (λ (B : Bridges). let s : State = record { bridges = B; counts = count_in c.self.inside.counts; moment = c.args.now } in s) left)

pub returns-clause-calls_stay_counted : goal.returns-clause-calls_stay_counted
returns-clause-calls_stay_counted c = rw (← c.self.view_is) c.change-answer.ensures.calls_stay_counted

pub returns-clause-calls : goal.returns-clause-calls
returns-clause-calls c = rw (← c.self.view_is) c.change-answer.ensures.calls

pub returns-clause-comparisons_stay_counted : goal.returns-clause-comparisons_stay_counted
returns-clause-comparisons_stay_counted c = rw (← c.self.view_is) c.change-answer.ensures.comparisons_stay_counted

pub returns-clause-compared : goal.returns-clause-compared
returns-clause-compared c = rw (← c.self.view_is) c.change-answer.ensures.compared
