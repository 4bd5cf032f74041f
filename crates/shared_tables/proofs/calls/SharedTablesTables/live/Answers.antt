use Rattle.std.proofs.Common.{sym, ap, ◌∙◌, subst}
use Rattle.std.specs.FinMap.{len}
use Rattle.filter_db.specs.Segment.{Segment}
use Rattle.shared_tables.specs.Shared.{Sweeps}
use Rattle.shared_tables.proofs.OnCalls.CallLemmas.{own_is, rule_there, span_is, stays_all}
use Rattle.shared_tables.proofs.OnCalls.SegmentsLemmas.{sweep_segments, swept_len}
use Rattle.shared_tables.proofs.OnCalls.WorkLemmas.{visits_of}
use Rattle.shared_tables.proofs.OnCalls.Steps.{leaves}
use Rattle.shared_tables.proofs.OnCalls.Answering.{sweeps_first}
use Rattle.shared_tables.proofs.calls.SharedTablesTables.live.Goals as goal

pub returns : goal.returns
returns c =
    let old = c.args.self.now in let f = c.begin.new.self in let mid = c.sweep.new.tables in let v = c.args.vid in let now = c.args.now in let le = c.requires.time in let has = c.requires.has in
    let s = sweeps_first old f mid now v c.begin.ensures.after c.begin.ensures.orderly le has c.sweep.ensures in
    let l = leaves old f mid now s.begun s.step in
    let unique = s.begun.orderly.unique in let r = rule_there old f now v s.begun le has in
    let swept = subst (Sweeps f mid v) (span_is old f now v s.begun le has) c.sweep.ensures in
    record {
      count = c.kept.ensures ∙ sym (swept_len f mid v r.rule unique swept) ∙ sym (ap (λ (t : Segment). len t.entries) (own_is old f now v s.begun le has));
      after = stays_all old f now v s.begun le has mid (sweep_segments f mid v r.rule r.here unique swept);
      moment = l.moment;
      calls = l.calls;
      pool = l.pool;
      compared = s.step.compared ∙ s.compared;
      visited = visits_of old f mid now s.begun s.visits;
      visits_stay_counted = l.counted;
      paid = l.paid;
    }
