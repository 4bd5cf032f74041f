use Rattle.std.proofs.Common.{◌≡◌, ◌↔◌, ℕ, ◌*◌, Bool, true, List, length, refl, sym, subst, arith}
use Rattle.std.proofs.lemmas.Option.{slice_get_read}
use Rattle.fabric_ways.specs.Leads.{Leads, is_found}
use Rattle.fabric_ways.specs.Rows.{row_in}
use Rattle.fabric_ways.proofs.PictureLemmas.{CellRows-more}
use Rattle.fabric_ways.proofs.ways.cells_of.Goals as goal

pub loop-i-preserved : goal.loop-i-preserved
loop-i-preserved c =
    let N = c.args.net.now in
    let i = c.loop-i.i in
    let P : List Bool → Type 0 = λ l. (t : ℕ) → (is_found l t ≡ true) ↔ Leads (row_in c.args.graph.now) (3 * i) t in
    CellRows-more N c.loop-i.cells.items c.push_row.new.cells.items i c.index-net-i.result c.as_slice.result.now (row_in c.args.graph.now) c.loop-i.invariant
    (slice_get_read N (length N) i c.index-net-i.result refl (omega arith) c.index-net-i.is)
    c.in_ok-push_row.ensures c.requires.rows (subst P (sym c.as_slice.ensures.value) c.in_ok-found.ensures.led)
