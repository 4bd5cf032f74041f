use Rattle.std.proofs.Common.{◌≡◌, length}
use Rattle.std.specs.Iterator.Adapters.{enumerate_source}
use Rattle.std.specs.Vec.Iter.{into_iter_items, into_iter_len}
use Rattle.program_files.proofs.Handing.{Handed, outputs_in}
use Rattle.program_files.proofs.handed_on.hand_on_ports.Given as goal

-- files stand for the outputs that were taken, or for fewer
abbrev pub invariant-loop-index : goal.invariant-loop-index
invariant-loop-index g l =
    Handed g.F.Write.contents l.fn.ports.items (outputs_in g.F.Write.contents l.yielded) (into_iter_items (enumerate_source l.index-iterator)) l.files.items
    × (into_iter_len (enumerate_source l.index-iterator) ≡ length (into_iter_items (enumerate_source l.index-iterator)))
