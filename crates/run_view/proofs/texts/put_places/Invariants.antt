use Rattle.std.proofs.Common.{◌≡◌, ◌≤◌, ◌++◌, drop, cond, map, length}
use Rattle.endpoint_core.specs.Kept.{state_of}
use Rattle.endpoint_core.specs.Step.{has_two_tunnels, sent_at}
use Rattle.endpoint_core.specs.Text.{outcomes_text, further_text}
use Rattle.run_view.specs.Blocks.{comment_of}
use Rattle.run_view.proofs.texts.put_places.Given as goal

-- with what is left put too, as much is told as of all
abbrev pub invariant-loop-place : goal.invariant-loop-place
invariant-loop-place l =
    let S = (state_of l.endpoint).bridges.settings in
    let two = has_two_tunnels S.overlay l.came.vid in
    let all = map (sent_at S l.came.vid l.came.frame) l.places in
    let rest = map (sent_at S l.came.vid l.came.frame) (drop l.place-index l.places) in
    record {
      text : comment_of (l.line ++ cond l.is_first (outcomes_text two rest) (further_text two rest)) ≡ comment_of (l.fn.line ++ outcomes_text two all);
      room : length l.line ≤ 65077;
    }
