use Rattle.std.proofs.Common.{◌≢◌}
use Rattle.pcap.specs.Source.{New}
use Rattle.capture_tests.proofs.tests.captures.source_tests.lent_by.Given as goal

abbrev pub invariant-loop-lent : goal.invariant-loop-lent
invariant-loop-lent g l = l.source.standing ≢ New
