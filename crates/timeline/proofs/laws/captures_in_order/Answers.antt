use Rattle.timeline.proofs.Orders.{captures_rise, rising_stays}
use Rattle.timeline.proofs.laws.captures_in_order.Goals as goal

pub returns-clause-rise : goal.returns-clause-rise
returns-clause-rise c = captures_rise

pub returns-clause-stay : goal.returns-clause-stay
returns-clause-stay c = rising_stays
