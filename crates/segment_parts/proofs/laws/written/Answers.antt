use Rattle.segment_parts.proofs.Running.{written-part}
use Rattle.segment_parts.proofs.Writing.{written-whole, numbers-rise}
use Rattle.segment_parts.proofs.laws.written.Goals as goal

pub returns : goal.returns
returns c = record { part = written-part; whole = written-whole; numbers = numbers-rise }
