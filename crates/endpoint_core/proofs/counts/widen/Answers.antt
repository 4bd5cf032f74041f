use Rattle.std.proofs.Common.{ℕ, [], List, get_or, ap, ◌∙◌, arith}
use Rattle.endpoint_core.proofs.CellsLemmas.{zeros-behind}
use Rattle.endpoint_core.proofs.counts.widen.Goals as goal

pub loop-row-preserved : goal.loop-row-preserved
loop-row-preserved c =
    let l = c.loop-row in
    record {
      size = omega (arith, c.push_reserved.ensures.len, l.invariant.size);
      same = λ vid k.
          ap (λ (rows : List (List ℕ)). get_or (get_or rows vid []) k 0) c.push_reserved.ensures.items
          ∙ zeros-behind l.rows.items c.no_row.result c.no_row.ensures vid k ∙ l.invariant.same vid k;
      room = c.push_reserved.ensures.capacity ∙ l.invariant.room;
    }
