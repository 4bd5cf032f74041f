use Rattle.std.proofs.Common.{◌≡◌, [], All, length}
use Rattle.pcap.specs.Block.{Block}
use Rattle.program_files.proofs.outputs.open_outputs.Given as goal

abbrev pub invariant-loop-index : goal.invariant-loop-index
invariant-loop-index g l = record {
  count : length l.ports.items ≡ l.index;
  unwritten : All (λ (b : Block). b.held ≡ []) l.ports.items;
}
