-- Decision lines: one for each event, and one for each capture that ends with a cut rest. It states no standard.
use Rattle.std.specs.Prelude.{ℕ, List, [], ◌∷◌, ◌++◌, codes, decimal, Option, Some, None}
use Rattle.timeline.specs.declared.event.Event.{Event}
use Rattle.timeline.specs.declared.source.Source.{Source}
use Rattle.timeline.specs.declared.timeline.Cut.{Cut}
use Rattle.timeline.specs.Words.{source_of, source_word, tap_word}
use Rattle.endpoint_core.specs.declared.state.fault.ChangeFault.{ChangeFault}
use Rattle.endpoint_core.specs.Fault.{number_of, name_of}
use Rattle.endpoint_core.specs.Step.{Answer, Decided, Replied}
use Rattle.endpoint_core.specs.Text.{result_of}

-- the VID of the segment, where there is one
abbrev pub segment_text : Option ℕ → List ℕ
segment_text (Some vid) = decimal vid
segment_text None = codes "-"

-- what a change was answered: done, or refused with the number and the name of the cause
abbrev pub reply_text : Option ChangeFault → List ℕ
reply_text None = codes "done"
reply_text (Some fault) = codes "refused " ++ decimal (number_of fault) ++ codes " " ++ name_of fault

-- the segment and the result of an answer; of a change the segment that it names
abbrev pub answer_text : Option ℕ → Answer → List ℕ
answer_text named (Decided decision) = segment_text decision.segment ++ codes " " ++ result_of decision
answer_text named (Replied fault) = segment_text named ++ codes " " ++ reply_text fault

-- an event's number, its moment, its source and its number there
abbrev pub front_text : ℕ → ℕ → Source → ℕ → List ℕ
front_text number moment source own =
    decimal number ++ codes " " ++ decimal moment ++ codes " " ++ source_word source ++ codes " " ++ decimal own ++ codes " "

-- the same of an event of the timeline
abbrev pub line_front : ℕ → Event → List ℕ
line_front number e = front_text number e.moment (source_of e.happening) e.number

-- and then the segment and the result
abbrev pub line : ℕ → Event → List ℕ → List ℕ
line number e text = line_front number e ++ (text ++ 10 ∷ [])

-- behind the last event
abbrev pub cut_line : Cut → List ℕ
cut_line cut = codes "cut " ++ tap_word cut.tap ++ codes " " ++ decimal cut.whole ++ 10 ∷ []
