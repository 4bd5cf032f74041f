use Rattle.std.proofs.Common.{◌≡◌, [], ◌++◌, All, length, map}
use Rattle.std.specs.Vec.Iter.{into_iter_items}
use Rattle.pcap.specs.Block.{Block}
use Rattle.pcap.specs.Sink.{Drain}
use Rattle.program_files.specs.Held.{IsHeld}
use Rattle.program_files.proofs.outputs.Opened.emptied.Given as goal

-- a file that is written stands for each that was taken
abbrev pub invariant-loop-file : goal.invariant-loop-file
invariant-loop-file g l = record {
  count : length l.ports.items ≡ length l.yielded;
  all : l.yielded ++ into_iter_items l.file-iterator ≡ into_iter_items l.initial.file-iterator;
  unwritten : All (λ (b : Block). b.held ≡ []) (into_iter_items l.file-iterator);
  held : All (IsHeld g.F.Write.contents) (map (λ (d : Drain). d.written) l.ports.items);
}
