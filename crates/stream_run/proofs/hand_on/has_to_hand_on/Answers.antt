use Rattle.std.proofs.Common.{◌≡◌, ◌∙◌, sym, true, false}
use Rattle.stream_run.proofs.Waiting.{never_needed}
use Rattle.stream_run.proofs.hand_on.has_to_hand_on.Goals as goal

pub returns-clause-before : goal.returns-clause-before
returns-clause-before g c not_needed waits takes =
    absurd (never_needed c.args.takes_all c.may_wait_behind.result _ (c.may_wait_behind.ensures.some waits) (λ all. c.may_wait_behind.ensures.capture waits all takes.place takes.at) takes.lacks not_needed)

pub returns-clause-behind : goal.returns-clause-behind
returns-clause-behind g c not_needed some waits =
    let never : true ≡ false = sym (c.may_wait_behind.ensures.some waits some) ∙ not_needed in
    absurd cc
