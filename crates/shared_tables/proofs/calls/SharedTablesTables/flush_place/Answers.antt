use Rattle.filter_db.specs.Segment.{flush_place_in}
use Rattle.shared_tables.proofs.OnCalls.SegmentsLemmas.{flush_place_segments}
use Rattle.shared_tables.proofs.OnCalls.Answering.{lets_go}
use Rattle.shared_tables.proofs.calls.SharedTablesTables.flush_place.Goals as goal

pub returns : goal.returns
returns c =
    let f = c.begin.new.self in let new = c.drop_place.new.self in let v = c.args.vid in
    let l = lets_go c.args.self.now f new c.args.now v (flush_place_in c.args.place) _ c.begin.ensures.after c.begin.ensures.orderly c.requires.time c.requires.has c.drop_place.ensures.some (λ unique. flush_place_segments f new v c.args.place unique c.drop_place.ensures) in
    record { after = l.after; moment = l.left.moment; calls = l.left.calls; pool = l.left.pool; compared = l.compared; visited = l.visited; paid = l.left.paid }
