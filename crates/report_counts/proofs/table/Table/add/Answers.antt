use Rattle.std.proofs.Common.{arith}
use Rattle.report_counts.proofs.Keeping.{set_added}
use Rattle.report_counts.proofs.table.Table.add.Goals as goal

pub returns-then-row-len : goal.returns-then-row-len
returns-then-row-len g c =
    rw (← c.self.view_is)
    (set_added c.self.inside.rows.items c.args.row c.args.column c.args.more _ _ _ (omega arith) c.index_mut.ensures.value c.add_in_row.ensures)
