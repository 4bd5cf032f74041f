use Rattle.std.proofs.Common.{arith}
use Rattle.shared_tables.proofs.OnTrees.Parting.{parting_small, parting_differs}
use Rattle.shared_tables.proofs.slots.parting.Goals as goal

pub returns-else-one-other-clause-differs : goal.returns-else-one-other-clause-differs
returns-else-one-other-clause-differs c =
    let ne = c.if-one-other.false in
    (parting_small c.args.one c.args.other (omega arith) (omega arith) ne, parting_differs c.args.one c.args.other (omega arith) (omega arith) ne)
