use Rattle.std.proofs.Common.{refl, inl, inr}
use Rattle.pcap.proofs.Calls.{IsNext-ended, IsNext-found, goes}
use Rattle.pcap.proofs.Readings.{records-nothing}
use Rattle.pcap.proofs.text.capture.CaptureIterator.next.Goals as goal

pub returns-in-Another-clause-steps : goal.returns-in-Another-clause-steps
returns-in-Another-clause-steps c = IsNext-found _ _ _ _ _ _ _ c.next_in.ensures.next c.in-Another.is c.self.view_is refl refl (c.in-Another.ensures.limits)

pub returns-in-Another-clause-goes : goal.returns-in-Another-clause-goes
returns-in-Another-clause-goes c = goes _ _ _ (returns-in-Another-clause-steps c).in_turn

pub returns-in-Faulty-clause-steps : goal.returns-in-Faulty-clause-steps
returns-in-Faulty-clause-steps c = IsNext-found _ _ _ _ _ _ _ c.next_in.ensures.next c.in-Faulty.is c.self.view_is refl (records-nothing c.self.inside.style) tt

pub returns-in-Faulty-clause-goes : goal.returns-in-Faulty-clause-goes
returns-in-Faulty-clause-goes c = goes _ _ _ (returns-in-Faulty-clause-steps c).in_turn

pub returns-in-Whole-clause-steps : goal.returns-in-Whole-clause-steps
returns-in-Whole-clause-steps c = elim c.in-Whole.is [
  | inl is ↦ IsNext-ended _ _ _ _ _ c.next_in.ensures.next is c.self.view_is refl refl
  | inr is ↦ IsNext-ended _ _ _ _ _ c.next_in.ensures.next is c.self.view_is refl refl
]
