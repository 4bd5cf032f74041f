use Rattle.std.proofs.Common.{◌∙◌, ap, length, arith}
use Rattle.capture_compare.specs.Near.{has_room}
use Rattle.capture_compare.proofs.Holding.{held-more, room-fits}
use Rattle.capture_compare.proofs.lonely.near.LonelySeen.put.Goals as goal

pub invariant_of-self-2 : goal.invariant_of-self-2
invariant_of-self-2 c =
    let more = length c.args.received.now.octets.now in
    let fits = room-fits more c.self.inside.held.items (ap (has_room more) c.self.view_is ∙ c.requires) in (
      held-more c.self.inside.held.items c.push_back.new.self.items _ c.self.inside.octets more c.self.invariant.0 c.in_ok-push_back.ensures.items (ap length c.in_ok-octets.ensures.items),
      omega (arith, fits, c.self.invariant.0),
    )
