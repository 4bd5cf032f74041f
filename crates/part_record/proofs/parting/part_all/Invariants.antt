use Rattle.part_record.specs.Parting.{AreOnceBelow}
use Rattle.part_record.proofs.parting.part_all.Given as goal

abbrev pub invariant-loop-number : goal.invariant-loop-number
invariant-loop-number l = AreOnceBelow l.number l.parts
