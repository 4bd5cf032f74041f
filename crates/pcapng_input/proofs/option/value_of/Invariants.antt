use Rattle.std.proofs.Common.{◌≡◌, length}
use Rattle.pcapng_input.specs.Options.{block_options, option_value}
use Rattle.pcapng_input.proofs.option.value_of.Given as goal

abbrev pub invariant-loop-option : goal.invariant-loop-option
invariant-loop-option l = option_value l.code (block_options l.order l.left).options ≡ option_value l.code (block_options l.order l.text).options

abbrev pub decreases-loop-option : goal.decreases-loop-option
decreases-loop-option l = length l.left
