use Rattle.std.proofs.Common.{◌≡◌, List, [], ◌∷◌, ◌++◌, ◌+◌, length, refl, sym, ◌∙◌, ap, subst, arith}
use Rattle.std.proofs.lemmas.Option.{slice_get_read}
use Rattle.fabric_grid.specs.declared.cell.Cell.{Cell}
use Rattle.fabric_ways.specs.Picture.{cell, has_way, HasRow}
use Rattle.fabric_ways.proofs.PictureLemmas.{HasRow-more}
use Rattle.fabric_ways.proofs.ways.push_row.Goals as goal

pub loop-j-preserved : goal.loop-j-preserved
loop-j-preserved c =
    let X = c.args.x.now in
    let Y = c.index-net-j.result in
    let found = c.args.found.now in
    let now = c.loop-j.cells.items in
    let e : c.push.new.self.items ≡ now ++ cell X Y (has_way found c.loop-j.j) ∷ [] =
    c.in_ok-push.ensures.items ∙ ap (λ v. now ++ v ∷ []) (c.cell.ensures ∙ ap (λ w. cell X Y w) c.has_way-way.ensures) in
    let P : List Cell → Type 0 = λ l. HasRow c.args.cells.now.items l X c.args.net.now found (c.loop-j.j + 1) in
    subst P (sym e)
    (HasRow-more c.args.cells.now.items now X Y c.args.net.now found c.loop-j.j c.loop-j.invariant
    (slice_get_read c.args.net.now (length c.args.net.now) c.loop-j.j Y refl (omega arith) c.index-net-j.is))
