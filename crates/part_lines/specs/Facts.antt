-- What a decision line tells a merge: which event it is of, and where that was sent. It states no standard.
use Rattle.std.specs.Prelude.{ℕ, ◌-◌, ◌==◌, nat_le, Bool, List, length, take, slice_index, codes}
use Rattle.std.specs.Prelude.{count_by, if◌then◌else◌, Option, Some, None, Result, Ok, Err}
use Rattle.wire.specs.Octets.{is_same}
use Rattle.line_words.specs.Words.{word, behind}
use Rattle.line_words.specs.Numbers.{number_of}
use Rattle.part_lines.specs.Sent.{has_places, sent_in}
use Rattle.part_lines.specs.declared.fault.LineFault.{LineFault}
use Rattle.part_lines.specs.declared.fault.LineFault.TheVariants as faults
use Rattle.part_lines.specs.declared.facts.LineFacts.{LineFacts}
use Rattle.part_lines.specs.declared.facts.LineFacts.TheVariants as facts

-- the result of a line: what stands behind five spaces
abbrev pub result_in : List ℕ → List ℕ
result_in text = behind (behind (behind (behind (behind text))))

-- it has five spaces or more
abbrev pub has_result : List ℕ → Bool
has_result text = nat_le 5 (count_by (λ c. c == 32) text)

-- the event of this number, and where it was sent
abbrev pub event_of : List ℕ → Option ℕ → Result LineFacts LineFault
event_of text None = Err faults.Number
event_of text (Some number) =
    if has_result text then
    if has_places (result_in text) then Ok (facts.Event number (sent_in (result_in text)))
    else Err faults.Place
    else Err faults.Fields

-- what a line tells, without its end
abbrev pub told_in : List ℕ → Result LineFacts LineFault
told_in text = if is_same (word text) (codes "cut") then Ok facts.Cut else event_of text (number_of (word text))

-- a line ends with a line feed
abbrev pub has_end : List ℕ → Bool
has_end text = slice_index text (length text - 1) == 10

-- what a line tells
unfoldable pub facts_of : List ℕ → Result LineFacts LineFault
facts_of text = if has_end text then told_in (take (length text - 1) text) else Err faults.NoEnd
