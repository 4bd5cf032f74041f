use Rattle.std.proofs.Common.{◌≡◌, length, sym, ap, ◌∙◌, subst, arith}
use Rattle.std.specs.FinMap.{len}
use Rattle.filter_db.specs.Segment.{Segment, segment_at, adjusted}
use Rattle.filter_db.specs.Standing.{set_limit_in}
use Rattle.shared_tables.specs.Shared.{Shared, kept_count}
use Rattle.shared_tables.specs.Segments.{segments_of}
use Rattle.shared_tables.proofs.OnCalls.CallLemmas.{changes}
use Rattle.shared_tables.proofs.OnCalls.SegmentsLemmas.{own_segment, sweep_segments, swept_len, swept_unique}
use Rattle.shared_tables.proofs.OnCalls.StandingLemmas.{Fits_in, fit_few, fit_rules, fit_size, fit_segments, rules_limits, rules_limit}
use Rattle.shared_tables.proofs.OnCalls.WorkLemmas.{Visits, visits_of}
use Rattle.shared_tables.proofs.OnCalls.Steps.{leaves, fit_step, fit_visits, ruled_step}
use Rattle.shared_tables.proofs.OnCalls.Answering.{sweeps_first}
use Rattle.shared_tables.proofs.pool_calls.SharedTablesPoolTables.set_limit.Goals as goal

pub set_most-requires-clause-few : goal.set_most-requires-clause-few
set_most-requires-clause-few c =
    let v = c.args.vid in
    let fits : Fits_in c.sweep.new.tables c.fit.new.tables v c.args.limit = record { within = c.fit.ensures.within; above = c.fit.ensures.above } in
    fit_few c.sweep.new.tables c.fit.new.tables v c.args.limit fits

pub set_most-requires-clause-room : goal.set_most-requires-clause-room
set_most-requires-clause-room c =
    let old = c.args.self.now in let v = c.args.vid in
    let fits : Fits_in c.sweep.new.tables c.fit.new.tables v c.args.limit = record { within = c.fit.ensures.within; above = c.fit.ensures.above } in
    let rules : c.fit.new.tables.rules ≡ old.rules = fit_rules c.sweep.new.tables c.fit.new.tables v c.args.limit fits ∙ ap (λ (w : Shared). w.rules) c.sweep.ensures.same ∙ ap (λ (w : Shared). w.rules) c.begin.ensures.after in
    omega (
      arith,
      c.requires.room,
      rules_limits c.fit.new.tables old rules,
      rules_limit c.fit.new.tables old v rules,
      fit_size c.sweep.new.tables c.fit.new.tables v c.args.limit fits,
      c.sweep.ensures.size,
      ap (λ (w : Shared). length w.entries) c.begin.ensures.after,
    )

pub returns : goal.returns
returns c =
    let old = c.args.self.now in let f = c.begin.new.self in let mid = c.sweep.new.tables in let fit = c.fit.new.tables in let new = c.set_most.new.self in
    let v = c.args.vid in let now = c.args.now in let le = c.requires.time in let has = c.requires.has in let limit = c.args.limit in
    let s = sweeps_first old f mid now v c.begin.ensures.after c.begin.ensures.orderly le has c.sweep.ensures in
    let unique = s.begun.orderly.unique in
    let fits : Fits_in mid fit v limit = record { within = c.fit.ensures.within; above = c.fit.ensures.above } in
    let step = ruled_step f fit new _ (fit_step f mid fit v limit fits s.step) c.set_most.ensures.same in
    let l = leaves old f new now s.begun step in
    let same : segments_of mid ≡ segments_of f = sweep_segments f mid v s.rule.rule s.rule.here unique s.swept in
    let counted : len (segment_at v (segments_of mid)).entries ≡ kept_count v mid.entries =
    ap (λ (s : Segment). len s.entries) (ap (segment_at v) same ∙ own_segment f v s.rule.rule s.rule.here) ∙ swept_len f mid v s.rule.rule unique s.swept in
    record {
      after = changes old f now v s.begun le has new (set_limit_in c.args.limit)
          (c.set_most.ensures.segments
          ∙ fit_segments mid fit v limit fits (swept_unique f mid v _ unique s.swept) counted
          ∙ ap (adjusted v (set_limit_in limit)) same);
      moment = l.moment;
      calls = l.calls;
      pool = l.pool;
      compared = step.compared ∙ s.compared;
      visited = visits_of old f new now s.begun (subst (Visits f) (sym c.set_most.ensures.same) (fit_visits f mid fit v limit fits s.visits));
      visits_stay_counted = l.counted;
      paid = l.paid;
    }
