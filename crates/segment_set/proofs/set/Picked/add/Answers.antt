use Rattle.std.proofs.Common.{arith, subst}
use Rattle.segment_set.proofs.Picks.{range_picked}
use Rattle.segment_set.specs.Lists.{AreVids}
use Rattle.segment_set.proofs.set.Picked.add.Goals as goal

pub returns-else-has_any : goal.returns-else-has_any
returns-else-has_any c =
    let vids = subst AreVids c.in-Vids.is c.requires in
    rw c.in-Vids.is (range_picked c.args.self.now.vids c.pick_all.new.vids c.args.self.now.none _ c.in-Vids.first c.in-Vids.last c.from.result c.from-in-Vids.result c.from.ensures c.from-in-Vids.ensures (omega (arith, vids)) (omega (arith, vids)) c.has_any.ensures c.if-has_any.false c.pick_all.ensures)
