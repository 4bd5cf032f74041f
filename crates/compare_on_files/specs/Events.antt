-- Which event of a run each record is of that it wrote at a place. It states no standard.
--     lines        the lines of a text
--     told         the events that lines tell in order, and why they tell no more
--     events_at    the number of the event of each record of a place, in order
--     event_at     the event of one record
use Rattle.std.specs.Prelude.{ℕ, ◌==◌, nat_le, if◌then◌else◌, Bool, true, false, List, [], ◌∷◌, ◌++◌, replicate}
use Rattle.std.specs.Prelude.{slice_get, count_by, Option, Some, None, Result, Ok, Err}
use Rattle.timeline.specs.declared.source.Tap.{Tap}
use Rattle.timeline.specs.declared.source.Tap.TheVariants.{Port, Underlay}
use Rattle.part_lines.specs.Words.{begun_by}
use Rattle.part_lines.specs.Facts.{facts_of}
use Rattle.part_lines.specs.declared.fault.LineFault.{LineFault}
use Rattle.part_lines.specs.declared.facts.LineFacts.{LineFacts}
use Rattle.part_lines.specs.declared.facts.LineFacts.TheVariants as facts
use Rattle.compare_on_files.specs.declared.events.fault.EventFault.{EventFault}
use Rattle.compare_on_files.specs.declared.events.fault.EventFault.TheVariants as faults

-- the lines of a text, each up to and with its line feed; the last one may have none
abbrev pub lines : List ℕ → List (List ℕ)
lines [] = []
lines (c ∷ cs) = if c == 10 then (c ∷ []) ∷ lines cs else begun_by c (lines cs)

-- an event that was sent at some places, in order, and its number
pub record Event : Type 0 where
  pub number : ℕ
  pub taps : List Tap

-- events in order, and why there are no more
pub record Told : Type 0 where
  pub events : List Event
  pub end : EventFault

-- none, and why
abbrev pub none_for : EventFault → Told
none_for fault = record { events = []; end = fault }

-- an event in front of others
abbrev pub put_before : ℕ → List Tap → Told → Told
put_before number taps t = record { events = record { number = number; taps = taps } ∷ t.events; end = t.end }

-- by what the first of some lines tells, where an event of this number comes before them: numbers rise, and behind the line of
-- a cut capture no event comes
abbrev pub told_by : ℕ → Result LineFacts LineFault → (ℕ → Told) → Told
told_by last (Ok (facts.Event number taps)) others =
    if nat_le number last then none_for (faults.Falls number) else put_before number taps (others number)
told_by last (Ok facts.Cut) others = none_for faults.Few
told_by last (Err fault) others = none_for (faults.Line fault)

-- what lines tell
abbrev pub told : ℕ → List (List ℕ) → Told
told last [] = none_for faults.Few
told last (l ∷ ls) = told_by last (facts_of l) (λ number. told number ls)

-- they are one place
abbrev pub is_tap : Tap → Tap → Bool
is_tap (Port p) (Port q) = p == q
is_tap (Port p) Underlay = false
is_tap Underlay (Port q) = false
is_tap Underlay Underlay = true

-- how many of some places are this one
abbrev pub count_at : Tap → List Tap → ℕ
count_at tap taps = count_by (is_tap tap) taps

-- the number of the event of each record of a place: that of each event as often as it was sent there
abbrev pub events_at : Tap → List Event → List ℕ
events_at tap [] = []
events_at tap (e ∷ es) = replicate (count_at tap e.taps) e.number ++ events_at tap es

-- a number, or why there is none
abbrev pub or_fault : Option ℕ → EventFault → Result ℕ EventFault
or_fault (Some number) fault = Ok number
or_fault None fault = Err fault

-- the event of the record of a place behind so many others
abbrev pub event_at : Tap → ℕ → Told → Result ℕ EventFault
event_at tap before t = or_fault (slice_get (events_at tap t.events) before) t.end

-- the same by a text of decision lines
abbrev pub event_in : Tap → ℕ → List ℕ → Result ℕ EventFault
event_in tap before text = event_at tap before (told 0 (lines text))
