-- What is told of an event, and of a capture that is cut. It states no standard.
--     told_text, left_text, cut_text      the comments and the messages, without the ends of their lines
use Rattle.std.specs.Prelude.{ℕ, Bool, List, ◌++◌, codes, decimal, Option}
use Rattle.timeline.specs.declared.timeline.Cut.{Cut}
use Rattle.timeline.specs.Words.{tap_word}
use Rattle.endpoint_core.specs.Decision.{Sent}
use Rattle.endpoint_core.specs.Step.{Answer}
use Rattle.endpoint_core.specs.Text.{outcome_text}
use Rattle.decision_lines.specs.Lines.{answer_text, front_text}
use Rattle.decision_objects.specs.declared.origin.Origin.{Origin}

-- the decision line of an event that stands here, and of a change names this segment
abbrev pub told_text : Origin → Option ℕ → Answer → List ℕ
told_text o named a = front_text o.event o.moment o.source o.number ++ answer_text named a

-- what left at an outlet in the event of this number
abbrev pub left_text : ℕ → Bool → Sent → List ℕ
left_text event two_tunnels o = codes "of " ++ (decimal event ++ (codes " " ++ outcome_text two_tunnels o))

-- the line of a capture that is cut
abbrev pub cut_text : Cut → List ℕ
cut_text cut = codes "cut " ++ (tap_word cut.tap ++ (codes " " ++ decimal cut.whole))
