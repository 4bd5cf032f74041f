use Rattle.std.proofs.Common.{◌≡◌, ◌∙◌, sym, ap, subst, length}
use Rattle.std.specs.List.{AllByRecursion}
use Rattle.timeline.proofs.KnownEvents.{known_events}
use Rattle.timeline.proofs.Orders.{all_merged}
use Rattle.timeline.specs.Events.{IsEventOf, all_events}
use Rattle.timeline.specs.Inputs.{HasBoundedRecords, inputs, opened_captures}
use Rattle.timeline.proofs.timeline.Timeline.read.Goals as goal

pub returns-clause-known : goal.returns-clause-known
returns-clause-known c =
    let changes = c.args.changes.now in
    let ports = c.args.ports.now in
    let underlay = c.args.underlay.now in
    let P = IsEventOf (length changes) (length ports) in
    let captures = c.in_ok-captures.ensures.captures in
    let known = known_events changes ports underlay (subst (AllByRecursion HasBoundedRecords) captures c.in_ok-captures.ensures.records) in
    let is : c.in_ok-all.all.items ≡ all_events changes (opened_captures (inputs ports underlay)) = c.in_ok-all.ensures.events ∙ ap (all_events changes) captures in
    subst (AllByRecursion P) (sym c.in_ok-events.ensures.merged) (all_merged P c.in_ok-all.all.items (subst (AllByRecursion P) (sym is) known))
