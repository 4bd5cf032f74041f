use Rattle.std.proofs.Common.{length}
use Rattle.text_advice.proofs.path.+target.Given as goal

abbrev pub decreases-target : goal.decreases-target
decreases-target l = length l.parts.now
