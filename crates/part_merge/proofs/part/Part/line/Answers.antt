use Rattle.std.proofs.Common.{subst}
use Rattle.part_merge.specs.Coming.{OpenPart}
use Rattle.part_merge.specs.Numbered.{IsOf}
use Rattle.part_merge.proofs.part.Part.line.Goals as goal

pub returns-clause-is_of : goal.returns-clause-is_of
returns-clause-is_of g c = subst (λ (s : OpenPart). IsOf s.coming s.reader.line) c.self.view_is c.self.invariant.1
