use Rattle.std.proofs.Common.{◌<◌, ℕ, subst, sym}
use Rattle.run_counts.specs.Kept.{Kept}
use Rattle.run_counts.proofs.Cells.{count_set, refused_set}
use Rattle.run_counts.proofs.parts.summary.Summary.set.Goals as goal

pub returns-in-Some : goal.returns-in-Some
returns-in-Some c =
    let s = c.self.inside in
    let p : Kept = record { counts = s.counts.items; refused = s.refused; came = s.came; left = s.left; partial = s.partial; cut = s.cut.items } in
    let is = c.in-Some.ensures in
    let low = subst (λ (n : ℕ). c.in-Some.index < n) (sym c.self.invariant.0) is.2 in
    count_set c.args.self.now p c.args.row c.in-Count.segment c.in-Count.number c.in-Count.count c.in-Some.index c.self.view_is c.in-Count.is is.0 is.1 low

pub returns-in-Refused : goal.returns-in-Refused
returns-in-Refused c =
    let s = c.self.inside in
    let p : Kept = record { counts = s.counts.items; refused = s.refused; came = s.came; left = s.left; partial = s.partial; cut = s.cut.items } in
    refused_set c.args.self.now p c.args.row c.in-Refused.number c.in-Refused.count c.from.result c.set_count.new.counts c.self.view_is c.in-Refused.is
    c.from.ensures c.self.invariant.1 c.set_count.ensures
