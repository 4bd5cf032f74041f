use Rattle.std.proofs.Common.{arith}
use Rattle.merge_on_files.proofs.merging.merge.Goals as goal

pub merge_streams-requires : goal.merge_streams-requires
merge_streams-requires g c = record { few = omega (arith, c.in_ok-outputs.ensures.count, c.in_ok-opened.ensures, c.at_most_ports-count.ensures) }
