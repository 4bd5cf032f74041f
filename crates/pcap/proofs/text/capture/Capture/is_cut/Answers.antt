use Rattle.std.proofs.Common.{sym, ap}
use Rattle.pcap.specs.Calls.{is_cut}
use Rattle.pcap.proofs.Calls.{left_found, not_cut}
use Rattle.pcap.proofs.text.capture.Capture.is_cut.Goals as goal

pub returns-in-Cut : goal.returns-in-Cut
returns-in-Cut c = sym (ap is_cut (left_found _ _ _ _ _ c.next_in.ensures.next c.in-Cut.is c.self.view_is))

pub returns-in_default : goal.returns-in_default
returns-in_default c = not_cut _ _ _ _ c.next_in.ensures.next c.in_default.not-Cut c.self.view_is
