use Rattle.std.proofs.Common.{take, map}
use Rattle.std.specs.List.{flat_map}
use Rattle.endpoint_core.specs.Kept.{state_of}
use Rattle.endpoint_core.specs.Step.{has_two_tunnels, sent_at}
use Rattle.decision_objects.specs.Writing.{Tells}
use Rattle.run_view.specs.Blocks.{text_of}
use Rattle.run_view.specs.View.{left_items}
use Rattle.run_view.proofs.output.ViewOutput.write_outcomes.Given as goal

-- what was told is what leaves at the places so far
abbrev pub invariant-loop-place : goal.invariant-loop-place
invariant-loop-place g l =
    let S = (state_of l.endpoint).bridges.settings in
    Tells l.fn.self l.self (text_of (flat_map (left_items l.ports l.seen (has_two_tunnels S.overlay l.came.vid))
    (map (sent_at S l.came.vid l.came.frame) (take l.place-index l.places))))
