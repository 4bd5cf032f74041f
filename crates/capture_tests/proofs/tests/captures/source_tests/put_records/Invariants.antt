use Rattle.std.proofs.Common.{◌≢◌}
use Rattle.pcap.specs.Source.{New}
use Rattle.capture_tests.proofs.tests.captures.source_tests.put_records.Given as goal

abbrev pub invariant-loop : goal.invariant-loop
invariant-loop g l = l.source.standing ≢ New
