use Rattle.stream_run.proofs.HandedOn.{asks_seldom, goes_on_only_then, hands_on_seldom}
use Rattle.stream_run.proofs.laws.few_hand_overs.Goals as goal

pub returns-clause-seldom : goal.returns-clause-seldom
returns-clause-seldom c = hands_on_seldom

pub returns-clause-asks : goal.returns-clause-asks
returns-clause-asks c = asks_seldom

pub returns-clause-only_then : goal.returns-clause-only_then
returns-clause-only_then c = goes_on_only_then
