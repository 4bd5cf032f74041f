use Rattle.std.proofs.Common.{◌≡◌, ◌++◌, drop, cond, map}
use Rattle.std.specs.String.{string_bytes}
use Rattle.endpoint_core.specs.Kept.{state_of}
use Rattle.endpoint_core.specs.Step.{has_two_tunnels, sent_at}
use Rattle.endpoint_core.specs.Text.{outcomes_text, further_text}
use Rattle.event_story.proofs.outcomes.put_outcomes.Given as goal

-- with what is left put too, it is all
abbrev pub invariant-loop-place : goal.invariant-loop-place
invariant-loop-place l =
    let S = (state_of l.endpoint).bridges.settings in
    let two = has_two_tunnels S.overlay l.came.vid in
    let all = map (sent_at S l.came.vid l.came.frame) l.places in
    let rest = map (sent_at S l.came.vid l.came.frame) (drop l.place-index l.places) in
    string_bytes l.text ++ cond l.parted (further_text two rest) (outcomes_text two rest) ≡ string_bytes l.fn.text ++ outcomes_text two all
