use Rattle.std.specs.List.{flat_map}
use Rattle.pcapng_input.specs.BlockText.{block_text}
use Rattle.decision_objects.specs.Writing.{Tells}
use Rattle.run_view.specs.Blocks.{port_blocks}
use Rattle.run_view.proofs.output.tell_ports.Given as goal

-- what was told is the interfaces so far
abbrev pub invariant-loop-i : goal.invariant-loop-i
invariant-loop-i g l = Tells l.fn.teller l.teller (flat_map block_text (port_blocks 1 l.i))
