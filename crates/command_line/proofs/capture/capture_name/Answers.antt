use Rattle.std.proofs.Common.{arith, rules}
use Rattle.command_line.proofs.Marks.{rsplit_once_char}
use Rattle.command_line.proofs.capture.capture_name.Goals as goal
use Rattle.command_line.proofs.capture.capture_name.Goals.{then-is_empty, else-is_empty}

pub returns-in_default-clause-file : goal.returns-in_default-clause-file
returns-in_default-clause-file c =
    let split = rsplit_once_char 35 c.args.name.now _ c.rsplit_once.ensures.cases (omega arith) in
    rw (← split) (grind rules)

pub returns-in_default-clause-interface : goal.returns-in_default-clause-interface
returns-in_default-clause-interface c =
    let split = rsplit_once_char 35 c.args.name.now _ c.rsplit_once.ensures.cases (omega arith) in
    rw (← split) (grind rules)

pub returns-clause-file : goal.returns-clause-file
returns-clause-file c =
    let split = rsplit_once_char 35 c.args.name.now _ c.rsplit_once.ensures.cases (omega arith) in
    rw (← split) (grind rules)

pub returns-clause-interface : goal.returns-clause-interface
returns-clause-interface c =
    let split = rsplit_once_char 35 c.args.name.now _ c.rsplit_once.ensures.cases (omega arith) in
    elim c.if-is_empty.branch [
      | then-is_empty w ↦ rw (← split) (grind rules)
      | else-is_empty w ↦ rw (← split) (grind rules)
    ]
