use Rattle.std.proofs.Common.{◌≡◌, ◌≤◌, ◌+◌, ◌*◌, ◌++◌, drop, cond, map, length}
use Rattle.endpoint_core.specs.Kept.{state_of}
use Rattle.endpoint_core.specs.Step.{has_two_tunnels, sent_at}
use Rattle.endpoint_core.specs.Text.{outcomes_text, further_text}
use Rattle.capture_run.specs.Outputs.{Outputs}
use Rattle.stream_run.specs.Stage.{Drains, StandAt}
use Rattle.stream_run.proofs.Standing.{PutSoFar}
use Rattle.stream_run.proofs.put.put_places.Given as goal

-- with what is left put too, it is all
abbrev pub invariant-loop-place : goal.invariant-loop-place
invariant-loop-place g l =
    let S = (state_of l.leaving.endpoint.now).bridges.settings in
    let two = has_two_tunnels S.overlay l.leaving.came.now.vid in
    let all = map (sent_at S l.leaving.came.now.vid l.leaving.came.now.frame) l.places in
    let rest = map (sent_at S l.leaving.came.now.vid l.leaving.came.now.frame) (drop l.place-index l.places) in
    record {
      sent : (start : Drains) (o : Outputs) → StandAt start l.initial.outputs o
          → PutSoFar l.leaving.moment start l.outputs o rest all;
      text : l.line ++ cond l.is_first (outcomes_text two rest) (further_text two rest) ≡ l.fn.line ++ outcomes_text two all;
      room : length l.line ≤ length l.fn.line + 77 * l.place-index;
    }
