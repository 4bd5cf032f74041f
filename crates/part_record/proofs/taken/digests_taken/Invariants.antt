use Rattle.std.proofs.Common.{◌≡◌, length, take}
use Rattle.part_record.specs.Taken.{AreTakenOf}
use Rattle.part_record.proofs.taken.digests_taken.Given as goal

abbrev pub invariant-loop-port : goal.invariant-loop-port
invariant-loop-port g l = record {
  count : length l.digests.items ≡ l.port-index;
  taken : AreTakenOf g.R.Input.remaining g.R.Input.calls g.R.Input.failures (take l.port-index l.ports) l.digests.items;
}
