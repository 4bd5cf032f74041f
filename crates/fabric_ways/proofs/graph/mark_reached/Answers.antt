use Rattle.std.proofs.Common.{ℕ, List, Bool, subst, refl}
use Rattle.fabric_ways.specs.Leads.{HasAll, IsWithin, is_found}
use Rattle.fabric_ways.specs.Rows.{row_in}
use Rattle.fabric_ways.proofs.Marking.{Reached-init, Reached-more, Reached-all}
use Rattle.fabric_ways.proofs.graph.mark_reached.Goals as goal

pub loop-init : goal.loop-init
loop-init c =
    let P : List ℕ → Type 0 = λ r. HasAll (is_found c.mark.new.found) r in
    let Q : List ℕ → Type 0 = λ r. (p : ℕ → Bool) → HasAll p r → IsWithin c.args.found.now p → IsWithin c.mark.new.found p in
    Reached-init c.args.found.now c.mark.new.found (row_in c.args.graph.now) c.args.start c.requires.none
    (subst P c.row_of.ensures c.mark.ensures.all) (subst Q c.row_of.ensures c.mark.ensures.within)

pub loop-preserved : goal.loop-preserved
loop-preserved c =
    Reached-more c.loop.found c.spread.new.found (row_in c.args.graph.now) c.args.start c.loop.invariant c.spread.ensures.keeps c.spread.ensures.within

pub returns : goal.returns
returns c =
    Reached-all c.spread.new.found (row_in c.args.graph.now) c.args.start
    (Reached-more c.loop.found c.spread.new.found (row_in c.args.graph.now) c.args.start c.loop.invariant c.spread.ensures.keeps c.spread.ensures.within)
    (c.loop-test.ensures.closed refl)
