use Rattle.std.proofs.Common.{◌≡◌, length}
use Rattle.pcapng_input.specs.Options.{block_options}
use Rattle.pcapng_input.proofs.option.are_whole.Given as goal

abbrev pub invariant-loop-rest : goal.invariant-loop-rest
invariant-loop-rest l = (block_options l.order l.left).is_whole ≡ (block_options l.order l.text).is_whole

abbrev pub decreases-loop-rest : goal.decreases-loop-rest
decreases-loop-rest l = length l.left
