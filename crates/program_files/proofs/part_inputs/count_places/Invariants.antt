use Rattle.std.proofs.Common.{length}
use Rattle.program_files.proofs.part_inputs.count_places.Given as goal

abbrev pub decreases-loop-tap : goal.decreases-loop-tap
decreases-loop-tap l = length l.places
