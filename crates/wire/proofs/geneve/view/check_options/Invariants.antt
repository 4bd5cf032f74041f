use Rattle.std.proofs.Common.{◌≡◌, true, length}
use Rattle.wire.specs.GeneveOptions.{options_in}
use Rattle.wire.proofs.WalkLemmas.{told}
use Rattle.wire.proofs.geneve.view.check_options.Given as goal

abbrev pub invariant-loop-option : goal.invariant-loop-option
invariant-loop-option l = told l.known l.is_accepted (options_in l.left) ≡ told l.known true (options_in l.fn.text)

abbrev pub decreases-loop-option : goal.decreases-loop-option
decreases-loop-option l = length l.left
