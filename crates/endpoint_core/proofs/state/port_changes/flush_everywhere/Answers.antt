use Rattle.std.proofs.Common.{◌≤◌, ◌+◌, ◌∙◌, ℕ, refl, sym, ap, subst, arith}
use Rattle.filter_db.specs.Segment.{aged_all, adjusted, flush_place_in, segment_at as table_of}
use Rattle.endpoint_core.specs.Sound.{AreReached}
use Rattle.endpoint_core.proofs.EverywhereLemmas.{all-changed, none-changed, more-changed}
use Rattle.endpoint_core.proofs.state.port_changes.flush_everywhere.Goals as goal
use Rattle.endpoint_core.proofs.state.port_changes.flush_everywhere.Goals.{in-Some, in_default}

pub loop-number-init : goal.loop-number-init
loop-number-init g c = record {
  time = c.requires.time;
  after = none-changed (flush_place_in c.args.place) c.args.now 1 (g.T.Tables.segments c.args.tables.now) (λ w there. (c.requires.vids w there).0);
  pool = refl;
  counted = omega arith;
  calls = omega arith;
  compared = refl;
  reached = λ S vid h. h;
}

pub loop-number-preserved : goal.loop-number-preserved
loop-number-preserved g c =
    let f = flush_place_in c.args.place in
    let now = c.args.now in
    let n = c.loop-number.number in
    let base = g.T.Tables.segments c.args.tables.now in
    let cur = g.T.Tables.segments c.loop-number.tables in
    elim c.match-new.branch [
      | in-Some w ↦
          let new = g.T.Tables.segments w.flush_at.new.tables in
          let is = w.flush_at.ensures.after ∙ ap (λ (i : ℕ). adjusted i f (aged_all now cur)) w.in-Some.ensures.1 in
          record {
            time = subst (λ (t : g.row.T.Denot). g.T.Tables.moment t ≤ now) (sym w.tables-is) w.flush_at.ensures.time;
            after = λ v. ap (λ (t : g.row.T.Denot). aged_all now (g.T.Tables.segments t) v) w.tables-is ∙ more-changed f now n base cur new c.loop-number.invariant.after is v;
            pool = ap g.T.Tables.pool w.tables-is ∙ w.flush_at.ensures.pool ∙ c.loop-number.invariant.pool;
            counted = subst (λ (t : g.row.T.Denot). g.T.Tables.calls c.args.tables.now ≤ g.T.Tables.calls t) (sym w.tables-is) (omega (arith, w.flush_at.ensures.calls_stay_counted, c.loop-number.invariant.counted));
            calls = subst (λ (t : g.row.T.Denot). g.T.Tables.calls t + 1 ≤ g.T.Tables.calls c.args.tables.now + (n + 1)) (sym w.tables-is) (omega (arith, w.flush_at.ensures.calls, c.loop-number.invariant.calls));
            compared = ap g.T.Tables.compared w.tables-is ∙ w.flush_at.ensures.compared ∙ c.loop-number.invariant.compared;
            reached = λ S v h. subst (λ (t : g.row.T.Denot). AreReached S v (table_of v (g.T.Tables.segments t)).entries) (sym w.tables-is) (w.flush_at.ensures.reached S v (c.loop-number.invariant.reached S v h));
          }
      | in_default w ↦ absurd (w.in_default.ensures (c.loop-number.auto.number, omega arith))
    ]

pub returns-clause-after : goal.returns-clause-after
returns-clause-after g c =
    all-changed (flush_place_in c.args.place) c.args.now c.loop-number.number (g.T.Tables.segments c.args.tables.now) (g.T.Tables.segments c.loop-number.tables) c.loop-number.invariant.after
    (λ w there. let bounds = c.requires.vids w there in let last : w ≤ 4094 = bounds.1 in omega arith)
