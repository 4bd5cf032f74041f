use Rattle.std.proofs.Common.{rules, subst, sym}
use Rattle.std.proofs.lemmas.Fn.{always_returns_same}
use Rattle.timeline.proofs.Orders.{rising_merged, sorted_is}
use Rattle.timeline.specs.Order.{IsRising}
use Rattle.timeline.specs.declared.event.Event.{Event}
use Rattle.timeline.proofs.order.merge.Goals as goal

pub returns-clause-merged : goal.returns-clause-merged
returns-clause-merged c =
    sorted_is _ _ (c.in_ok-sort_by_key.ensures.sorted (λ (e : Event). e.moment) (always_returns_same _ _ _ (λ a r f' k. search rules)))
    (c.sort_by_key.ensures.stable (λ (e : Event). e.moment) (always_returns_same _ _ _ (λ a r f' k. search rules)))

pub returns-clause-rising : goal.returns-clause-rising
returns-clause-rising c = subst (IsRising 0) (sym (returns-clause-merged c)) (rising_merged c.args.events.items)
