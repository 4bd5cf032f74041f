use Rattle.std.proofs.Common.{◌≡◌, ◌≤◌, ◌+◌, ◌*◌, ◌++◌, drop, cond, map, length}
use Rattle.endpoint_core.specs.Kept.{state_of}
use Rattle.endpoint_core.specs.Step.{has_two_tunnels, sent_at}
use Rattle.endpoint_core.specs.Text.{outcomes_text, further_text}
use Rattle.capture_run.specs.Writing.{seen, with_all_sent}
use Rattle.capture_run.proofs.step.put_outcomes.Given as goal

-- with what is left put too, it is all
abbrev pub invariant-loop-place : goal.invariant-loop-place
invariant-loop-place l =
    let S = (state_of l.endpoint).bridges.settings in
    let two = has_two_tunnels S.overlay l.came.vid in
    let all = map (sent_at S l.came.vid l.came.frame) l.places in
    let rest = map (sent_at S l.came.vid l.came.frame) (drop l.place-index l.places) in
    record {
      sent : with_all_sent l.moment (seen l.outputs) rest ≡ with_all_sent l.moment (seen l.fn.outputs) all;
      text : l.line ++ cond l.is_first (outcomes_text two rest) (further_text two rest) ≡ l.fn.line ++ outcomes_text two all;
      room : length l.line ≤ length l.fn.line + 77 * l.place-index;
    }
