use Rattle.overlay.proofs.SetterLemmas.{port_at-with_up, egress_at-with_member, has_segment-with_member, members_at-with_segment, members_at-without_segment}
use Rattle.overlay.proofs.ports.laws.setters.Goals as goal

pub returns-clause-up : goal.returns-clause-up
returns-clause-up c = port_at-with_up

pub returns-clause-member : goal.returns-clause-member
returns-clause-member c = egress_at-with_member

pub returns-clause-segments : goal.returns-clause-segments
returns-clause-segments c = has_segment-with_member

pub returns-clause-added : goal.returns-clause-added
returns-clause-added c = members_at-with_segment

pub returns-clause-removed : goal.returns-clause-removed
returns-clause-removed c = members_at-without_segment
