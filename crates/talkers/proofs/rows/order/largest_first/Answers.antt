use Rattle.std.proofs.Common.{rules}
use Rattle.std.proofs.lemmas.Fn.{always_returns_same}
use Rattle.talkers.specs.Order.{place_in_order}
use Rattle.talkers.proofs.Sorted.{sorted_is}
use Rattle.talkers.proofs.rows.order.largest_first.Goals as goal

pub returns : goal.returns
returns c =
    sorted_is place_in_order c.args.rows.items c.sort_by_key.new.self.items
    (c.in_ok-sort_by_key.ensures.sorted place_in_order (always_returns_same _ _ _ (λ a r f' k. search rules)))
    (c.sort_by_key.ensures.stable place_in_order (always_returns_same _ _ _ (λ a r f' k. search rules)))
