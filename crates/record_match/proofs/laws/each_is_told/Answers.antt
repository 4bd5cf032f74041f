use Rattle.record_match.proofs.Meeting.{each_is_told, none_is_left}
use Rattle.record_match.proofs.laws.each_is_told.Goals as goal

pub returns-clause-each : goal.returns-clause-each
returns-clause-each c = each_is_told

pub returns-clause-none : goal.returns-clause-none
returns-clause-none c = none_is_left
