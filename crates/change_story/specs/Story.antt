-- The story of a change: what it asks for, what each check saw, and then the decision line. It states no standard.
use Rattle.std.specs.Prelude.{ℕ, nat_le, if◌then◌else◌, List, [], ◌++◌}
use Rattle.timeline.specs.declared.event.Event.{Event as Happens}
use Rattle.overlay.specs.declared.settings.change.Change.{Change}
use Rattle.endpoint_core.specs.Change.{named}
use Rattle.endpoint_core.specs.State.{State as Bridges, aged, fault}
use Rattle.endpoint_core.specs.Event.{change_at}
use Rattle.endpoint_core.specs.Step.{State, answer}
use Rattle.decision_lines.specs.Lines.{line, answer_text}
use Rattle.change_story.specs.Change.{change_line}
use Rattle.change_story.specs.Checks.{checks, found_unless, told}
use Rattle.change_story.specs.Seen.{seen_text}

-- what there is to tell of a change in a state, all but its decision line: what each check saw up to the one that refuses,
-- and where none does what the change finds of what it changes
abbrev pub change_facts : Bridges → Change → List ℕ
change_facts B c = change_line c ++ seen_text (told (checks B c)) ++ seen_text (found_unless (fault B c) B c)

-- the story of an event of this number, by which this change comes to an endpoint in this state; nothing, where it would
-- come before the last one
abbrev pub change_story : State → ℕ → Happens → Change → List ℕ
change_story s number e c =
    if nat_le s.moment e.moment
    then change_facts (aged e.moment s.bridges) c ++ line number e (answer_text (named c) (answer s (change_at e.moment c)))
    else []
