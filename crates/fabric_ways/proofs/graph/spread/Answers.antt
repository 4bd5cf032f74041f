use Rattle.std.proofs.Common.{◌≡◌, ℕ, List, true, false, subst}
use Rattle.fabric_ways.specs.Leads.{is_found}
use Rattle.fabric_ways.specs.Rows.{row_in}
use Rattle.fabric_ways.proofs.Marking.{Spread-marked, Spread-unmarked, OneRow}
use Rattle.fabric_ways.proofs.graph.spread.Goals as goal
use Rattle.fabric_ways.proofs.graph.spread.Goals.{then-found-s, else-found-s}

pub loop-s-preserved : goal.loop-s-preserved
loop-s-preserved c =
    elim c.if-found-s.branch [
      | then-found-s w ↦
          let P : List ℕ → Type 0 = λ r. OneRow c.loop-s.found w.mark-new.new.found r w.mark-new.result in
          let here : is_found c.loop-s.found c.loop-s.s ≡ true = w.if-found-s.true in
          let one : OneRow c.loop-s.found w.mark-new.new.found (row_in c.args.graph.now c.loop-s.s) w.mark-new.result =
          subst P w.row_of.ensures (record {
            keeps = w.mark-new.ensures.keeps;
            all = w.mark-new.ensures.all;
            within = w.mark-new.ensures.within;
            same = w.mark-new.ensures.same;
            least = w.mark-new.ensures.least;
            fewer = w.mark-new.ensures.fewer;
          }) in
          rw (w.found-is, w.new-is) (Spread-marked _ _ _ _ _ _ _ c.loop-s.invariant here one)
      | else-found-s w ↦
          let here : is_found c.loop-s.found c.loop-s.s ≡ false = w.if-found-s.false in
          rw (w.found-is, w.new-is) (Spread-unmarked _ _ _ _ _ c.loop-s.invariant here)
    ]
