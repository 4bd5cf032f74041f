use Rattle.std.proofs.Common.{◌≡◌, ◌≤◌, ◌+◌, length, map, take}
use Rattle.endpoint_core.specs.Kept.{state_of}
use Rattle.endpoint_core.specs.Step.{has_two_tunnels, sent_at}
use Rattle.decision_objects.specs.Objects.{outcomes_text}
use Rattle.decision_objects.specs.Writing.{Grows}
use Rattle.decision_objects.proofs.Outcomes.{is_none}
use Rattle.decision_objects.proofs.output.ObjectOutput.put_outcomes.Given as goal

-- what was put is what comes of the places so far
abbrev pub invariant-loop-place : goal.invariant-loop-place
invariant-loop-place g l =
    let S = (state_of l.endpoint).bridges.settings in
    let outcomes = map (sent_at S l.came.vid l.came.frame) (take l.place-index l.places) in
    record {
      grows : Grows l.fn.self l.self (outcomes_text (has_two_tunnels S.overlay l.came.vid) outcomes);
      first : l.is_first ≡ is_none l.place-index;
      room : length l.self.line + 51 ≤ 65536;
    }
