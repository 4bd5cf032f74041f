use Rattle.std.proofs.Common.{◌≡◌, length, take}
use Rattle.runs_on_files.specs.Digests.{AreDigestsOf}
use Rattle.runs_on_files.proofs.digests.take_digests.Given as goal

abbrev pub invariant-loop-name : goal.invariant-loop-name
invariant-loop-name g l = record {
  count : length l.digests.items ≡ l.name-index;
  told : AreDigestsOf g.R.File.Read.remaining g.R.Reader.Read.remaining (take l.name-index l.ports) l.digests.items;
}
