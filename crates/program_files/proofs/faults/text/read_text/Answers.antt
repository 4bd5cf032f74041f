use Rattle.std.proofs.Common.{◌+◌, arith}
use Rattle.program_files.proofs.faults.text.read_text.Goals as goal

pub returns-in_default-clause-bound : goal.returns-in_default-clause-bound
returns-in_default-clause-bound g c = (c.loop-made._made + 1, omega arith, omega arith)

pub returns-then-taken-eq0-clause-bound : goal.returns-then-taken-eq0-clause-bound
returns-then-taken-eq0-clause-bound g c = (c.loop-made._made + 1, omega arith, omega arith)

pub returns-then-is_err-clause-bound : goal.returns-then-is_err-clause-bound
returns-then-is_err-clause-bound g c = (c.loop-made._made + 1, omega arith, omega arith)
