-- What a decision line tells: `E M SRC K SEG RESULT`, or `cut SRC K`, or the first of its fields that is none. It states no
-- standard.
use Rattle.std.specs.Prelude.{ℕ, ◌-◌, ◌==◌, nat_lt, ◌&&◌, if◌then◌else◌, List, [], ◌∷◌, length, take, slice_index, codes}
use Rattle.std.specs.Prelude.{Option, Some, None, Result, Ok, Err}
use Rattle.wire.specs.Octets.{is_same}
use Rattle.line_words.specs.Words.{word, behind}
use Rattle.line_words.specs.Numbers.{number_of}
use Rattle.timeline.specs.declared.source.Source.{Source}
use Rattle.timeline.specs.declared.source.Source.TheVariants as sources
use Rattle.timeline.specs.declared.source.Tap.{Tap}
use Rattle.timeline.specs.declared.source.Tap.TheVariants.{Port, Underlay}
use Rattle.report_counts.specs.Outcomes.{are_outcomes, outcomes_in}
use Rattle.report_counts.specs.declared.fault.LineFault.{LineFault}
use Rattle.report_counts.specs.declared.fault.LineFault.TheVariants.{Number, Fields, Place}
use Rattle.report_counts.specs.declared.line.ReportLine.{ReportLine}
use Rattle.report_counts.specs.declared.line.ReportLine.TheVariants.{Event, Cut}
use Rattle.report_counts.specs.declared.line.Outcome.{Outcome}
use Rattle.report_counts.specs.declared.line.Outcome.TheVariants.{Sent, Dropped, Done, Refused}

-- what comes of a field that reads well, else its fault
abbrev pub then_read : {A B : Type 0} → Result A LineFault → (A → Result B LineFault) → Result B LineFault
then_read (Ok field) next = next field
then_read (Err fault) next = Err fault

-- ---- fields

-- a number, where a text writes one
abbrev pub number_by : Option ℕ → Result ℕ LineFault
number_by (Some number) = Ok number
number_by None = Err Number

-- a number
abbrev pub number_in : List ℕ → Result ℕ LineFault
number_in text = if length text == 0 then Err Fields else number_by (number_of text)

-- the port of this number, 1 to 255
abbrev pub port_by : Option ℕ → Result Tap LineFault
port_by (Some number) = if nat_lt 0 number && nat_lt number 256 then Ok (Port number) else Err Place
port_by None = Err Place

-- where a capture was taken: `u`, or `p` and the number of a port
abbrev pub tap_in : List ℕ → Result Tap LineFault
tap_in [] = Err Fields
tap_in (c ∷ cs) = if (c == 117) && (length cs == 0) then Ok Underlay else if c == 112 then port_by (number_of cs) else Err Place

-- where an event came from: `c`, or where its capture was taken
abbrev pub source_in : List ℕ → Result Source LineFault
source_in text = if is_same text (codes "c") then Ok sources.Changes else then_read (tap_in text) (λ tap. Ok (sources.Tap tap))

-- the VID of a segment
abbrev pub vid_by : ℕ → Result (Option ℕ) LineFault
vid_by number = if nat_lt 0 number && nat_lt number 4095 then Ok (Some number) else Err Number

-- a segment, or `-` for none
abbrev pub segment_in : List ℕ → Result (Option ℕ) LineFault
segment_in text = if is_same text (codes "-") then Ok None else then_read (number_in text) vid_by

-- ---- results

-- a drop for the reason of this number
abbrev pub drop_by : ℕ → Result Outcome LineFault
drop_by number = if nat_lt 0 number && nat_lt number 41 then Ok (Dropped number) else Err Number

-- what stands behind the word of a drop
abbrev pub dropped_for : List ℕ → Result Outcome LineFault
dropped_for text = then_read (number_in (word text)) drop_by

-- a change that was refused for the cause of this number
abbrev pub refusal_by : ℕ → Result Outcome LineFault
refusal_by number = if nat_lt 0 number && nat_lt number 256 then Ok (Refused number) else Err Number

-- what stands behind the word of a refused change
abbrev pub refused_for : List ℕ → Result Outcome LineFault
refused_for text = then_read (number_in (word text)) refusal_by

-- outcomes at places
abbrev pub sent_by : List ℕ → Result Outcome LineFault
sent_by text = if are_outcomes text then Ok (Sent (outcomes_in text)) else Err Place

-- a result
abbrev pub result_in : List ℕ → Result Outcome LineFault
result_in text =
    if length text == 0 then Err Fields
    else if is_same text (codes "done") then Ok Done
    else if is_same (word text) (codes "drop") then dropped_for (behind text)
    else if is_same (word text) (codes "refused") then refused_for (behind text)
    else sent_by text

-- ---- lines

-- what stands behind the first word of the line of a cut capture
abbrev pub cut_of : List ℕ → Result ReportLine LineFault
cut_of text = then_read (tap_in (word text)) (λ tap. then_read (number_in (behind text)) (λ records. Ok (Cut tap records)))

-- what stands behind the number of an event
abbrev pub event_of : ℕ → List ℕ → Result ReportLine LineFault
event_of event text =
    then_read (number_in (word text)) (λ moment.
    then_read (source_in (word (behind text))) (λ source.
    then_read (number_in (word (behind (behind text)))) (λ number.
    then_read (segment_in (word (behind (behind (behind text))))) (λ segment.
    then_read (result_in (behind (behind (behind (behind text))))) (λ result.
    Ok (Event (record {
      event = event;
      moment = moment;
      source = source;
      number = number;
      segment = segment;
      result = result;
    })))))))

-- a line without the line feed at its end
abbrev pub without_end : List ℕ → List ℕ
without_end line = if slice_index line (length line - 1) == 10 then take (length line - 1) line else line

-- what a line without its end tells
abbrev pub told_by : List ℕ → Result ReportLine LineFault
told_by text =
    if is_same (word text) (codes "cut") then cut_of (behind text)
    else then_read (number_in (word text)) (λ event. event_of event (behind text))

-- what a line tells
abbrev pub line_of : List ℕ → Result ReportLine LineFault
line_of line = told_by (without_end line)
