use Rattle.capture_compare.proofs.Showing.{shown-received}
use Rattle.capture_compare.proofs.compare.receive_next.Goals as goal

pub returns-clause-told : goal.returns-clause-told
returns-clause-told g c =
    λ clock s0 r0 s sending start h turn.
    shown-received g.W.Onlooker.sees start c.args.onlooker.now c.take_received.new.onlooker c.args.manner.now clock s0 r0 s c.args.source.now c.fetch.new.source sending c.args.receiving.now c.fetch.new.self c.args.comparison.now c.take_received.new.comparison c.args.aside.now c.take_received.new.aside c.args.moment c.fetch.result h turn
    c.take_received.ensures.told c.take_received.ensures.within c.take_received.ensures.seen (c.fetch.ensures.fetched c.args.manner.now)
