use Rattle.filter_db.specs.Segment.{flush_in}
use Rattle.shared_tables.proofs.OnCalls.SegmentsLemmas.{flush_segments}
use Rattle.shared_tables.proofs.OnCalls.Answering.{lets_go}
use Rattle.shared_tables.proofs.calls.SharedTablesTables.flush.Goals as goal

pub returns : goal.returns
returns c =
    let f = c.begin.new.self in let new = c.flush.new.tables in let v = c.args.vid in
    let l = lets_go c.args.self.now f new c.args.now v flush_in _ c.begin.ensures.after c.begin.ensures.orderly c.requires.time c.requires.has c.flush.ensures.some (λ unique. flush_segments f new v unique c.flush.ensures) in
    record { after = l.after; moment = l.left.moment; calls = l.left.calls; pool = l.left.pool; compared = l.compared; visited = l.visited; paid = l.left.paid }
