use Rattle.std.specs.Prelude.{◌≢◌}
use Rattle.pcap.specs.Source.{New}
use Rattle.check_on_files.proofs.swapped.look.Given as goal

abbrev pub invariant-loop-number : goal.invariant-loop-number
invariant-loop-number g l = l.capture.standing ≢ New
