-- What a decision line tells, by where its result begins. It states no standard.
use Rattle.std.specs.Prelude.{ℕ, ◌-◌, List, length, take, drop, Result, Ok, Err}
use Rattle.timeline.specs.declared.source.Tap.{Tap}
use Rattle.part_lines.specs.Sent.{sent_in}
use Rattle.part_lines.specs.declared.fault.LineFault.{LineFault}
use Rattle.part_lines.specs.declared.facts.LineFacts.{LineFacts}
use Rattle.part_lines.specs.declared.facts.LineFacts.TheVariants as facts
use Rattle.part_lines.specs.declared.parts.LineParts.{LineParts}
use Rattle.part_lines.specs.declared.parts.LineParts.TheVariants as parts

-- what a line of these parts tells, without its end
abbrev pub told_by : List ℕ → Result LineParts LineFault → Result LineFacts LineFault
told_by line (Ok (parts.Event number at)) = Ok (facts.Event number (sent_in (drop at line)))
told_by line (Ok parts.Cut) = Ok facts.Cut
told_by line (Err fault) = Err fault

-- a line without its end
abbrev pub body : List ℕ → List ℕ
body text = take (length text - 1) text

-- the places that a line tells whose result begins there
abbrev pub places_in : List ℕ → ℕ → List Tap
places_in text at = sent_in (drop at (body text))

-- what a line of these parts tells
abbrev pub facts_by : List ℕ → Result LineParts LineFault → Result LineFacts LineFault
facts_by text parts = told_by (body text) parts
