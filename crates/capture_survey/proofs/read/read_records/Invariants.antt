use Rattle.pcap.specs.Source.{most_left}
use Rattle.capture_survey.proofs.Running.{HasRead}
use Rattle.capture_survey.proofs.read.read_records.Given as goal

abbrev pub invariant-records : goal.invariant-records
invariant-records g l = HasRead l.tap l.initial.source l.source l.tally

abbrev pub decreases-records : goal.decreases-records
decreases-records g l = most_left l.source
