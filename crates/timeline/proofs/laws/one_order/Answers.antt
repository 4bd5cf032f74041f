use Rattle.timeline.proofs.Orders.{merged_in_order, only_order}
use Rattle.timeline.proofs.laws.one_order.Goals as goal

pub returns-clause-is : goal.returns-clause-is
returns-clause-is c = merged_in_order

pub returns-clause-only : goal.returns-clause-only
returns-clause-only c = only_order
