use Rattle.std.proofs.Common.{arith}
use Rattle.filter_db.proofs.ListLemmas.{len-segment_of}
use Rattle.filter_db.proofs.table.Table.live.Goals as goal

pub returns-clause-count : goal.returns-clause-count
returns-clause-count c = omega (arith, c.len.ensures, c.self.inside.rows.ok.0, len-segment_of c.self.inside.rows.items c.self.view_is c.self.invariant.unique)
