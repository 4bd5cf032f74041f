use Rattle.std.proofs.Common.{sym, ap, ◌∙◌, subst}
use Rattle.filter_db.specs.Segment.{adjusted, set_ageing_in}
use Rattle.shared_tables.specs.Segments.{segments_of}
use Rattle.shared_tables.proofs.OnCalls.CallLemmas.{changes}
use Rattle.shared_tables.proofs.OnCalls.SegmentsLemmas.{seconds_segments}
use Rattle.shared_tables.proofs.OnCalls.WorkLemmas.{Visits, visits_of}
use Rattle.shared_tables.proofs.OnCalls.Steps.{leaves, ruled_step}
use Rattle.shared_tables.proofs.OnCalls.Answering.{sweeps_first}
use Rattle.shared_tables.proofs.calls.SharedTablesTables.set_ageing.Goals as goal

pub returns : goal.returns
returns c =
    let old = c.args.self.now in let f = c.begin.new.self in let mid = c.sweep.new.tables in let new = c.set_seconds.new.self in let v = c.args.vid in let now = c.args.now in let le = c.requires.time in let has = c.requires.has in
    let s = sweeps_first old f mid now v c.begin.ensures.after c.begin.ensures.orderly le has c.sweep.ensures in
    let same = c.set_seconds.ensures in
    let step = ruled_step f mid new _ s.step same in let l = leaves old f new now s.begun step in
    let aged = seconds_segments f mid new v c.args.seconds s.rule.rule s.rule.here s.begun.orderly.unique s.swept same in
    let visited = visits_of old f new now s.begun (subst (Visits f) (sym same) s.visits) in
    let after = changes old f now v s.begun le has new (set_ageing_in now c.args.seconds) (aged ∙ ap (λ t. adjusted v (set_ageing_in t c.args.seconds) (segments_of f)) s.begun.moment) in
    record { after = after; moment = l.moment; calls = l.calls; pool = l.pool; compared = step.compared ∙ s.compared; visited = visited; visits_stay_counted = l.counted; paid = l.paid }
