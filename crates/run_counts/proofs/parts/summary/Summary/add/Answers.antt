use Rattle.std.proofs.Common.{◌≡◌, ◌∙◌, arith}
use Rattle.std.specs.Vec.{with_items}
use Rattle.std.proofs.lemmas.List.{with_items_is}
use Rattle.run_counts.specs.Kept.{Kept}
use Rattle.run_counts.specs.Told.{sum_of}
use Rattle.run_counts.proofs.Cells.{added}
use Rattle.run_counts.proofs.parts.summary.Summary.add.Goals as goal

pub returns : goal.returns
returns c =
    let s = c.self.inside in
    let o = c.other.inside in
    let p : Kept = record { counts = s.counts.items; refused = s.refused; came = s.came; left = s.left; partial = s.partial; cut = s.cut.items } in
    let q : Kept = record { counts = o.counts.items; refused = o.refused; came = o.came; left = o.left; partial = o.partial; cut = o.cut.items } in
    let n : Kept = record {
      counts = (with_items s.counts c.add_all.new.counts).items;
      refused = c.add_all-2.new.counts;
      came = c.add_all-3.new.self;
      left = c.add_all-4.new.self;
      partial = c.saturating_add-self-inside.result;
      cut = c.extend_from_slice.new.self.items;
    } in
    let partial : n.partial ≡ sum_of p.partial q.partial = omega (arith, c.saturating_add-self-inside.ensures) in
    added c.extend_from_slice.result c.args.self.now c.args.other.now p q n c.add_all.new.counts c.as_mut_slice.result.now c.as_slice.result.now
    c.as_slice-2.result.now c.self.view_is c.other.view_is (with_items_is s.counts c.add_all.new.counts (c.add_all.ensures.size ∙ c.as_mut_slice.ensures.len))
    c.as_mut_slice.ensures.value c.as_slice.ensures.value c.add_all.ensures.sums c.add_all-2.ensures.sums c.add_all-3.ensures c.add_all-4.ensures
    partial c.as_slice-2.ensures.value c.extend_from_slice.ensures.items
