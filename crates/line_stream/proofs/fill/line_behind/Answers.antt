use Rattle.line_stream.proofs.Fills.{next_found, next_none}
use Rattle.line_stream.proofs.fill.line_behind.Goals as goal

pub returns-clause-found : goal.returns-clause-found
returns-clause-found c left =
    next_found left c.args.room.now c.args.lent.end c.args.lent.read c.in_ok-length.length c.requires.line c.requires.read c.in_ok-length.ensures

pub returns-in_err-length-clause-none : goal.returns-in_err-length-clause-none
returns-in_err-length-clause-none c =
    rw c.from_residual.ensures (next_none c.args.room.now c.args.lent.end c.args.lent.read c.requires.line c.in_err-length.ensures)
