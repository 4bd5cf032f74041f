-- The same text as it grows, packet by packet. It serves proofs. A law says that it becomes that of the whole capture.
use Rattle.std.specs.Prelude.{ℕ, ◌+◌, List, [], ◌∷◌, ◌++◌}
use Rattle.timeline.specs.declared.event.Event.{Event as Happens}
use Rattle.endpoint_core.specs.Step.{State, answer, after}
use Rattle.capture_run.specs.Outputs.{event_of}
use Rattle.explanation.specs.declared.text.Values.{Values}
use Rattle.explanation.specs.Explanation.{event_text}

-- an event of this number that comes to an endpoint in this state
abbrev pub text_at : ℕ → Values → ℕ → State → Happens → List ℕ
text_at depth values number s e = event_text s.bridges.settings.overlay depth values number (e, answer s (event_of [] e))

-- events behind so many others
abbrev pub texts_from : ℕ → Values → ℕ → State → List Happens → List ℕ
texts_from depth values count s [] = []
texts_from depth values count s (e ∷ es) =
    text_at depth values (count + 1) s e ++ texts_from depth values (count + 1) (after s (event_of [] e)) es
