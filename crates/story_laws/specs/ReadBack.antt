-- The laws of reading: what an object tells is all that the decision line of the same tells. It states no standard.
--     Subject      what an object and a line are about
--     ObjectsReadBack, CutsReadBack      of one object
--     OutputsReadBack      of as many as stand one behind another
use Rattle.std.specs.Prelude.{◌≡◌, ℕ, List, map, Option}
use Rattle.std.specs.List.{flat_map}
use Rattle.timeline.specs.declared.event.Event.{Event}
use Rattle.timeline.specs.declared.timeline.Cut.{Cut}
use Rattle.endpoint_core.specs.Step.{Answer}
use Rattle.decision_lines.specs.Lines.{answer_text, cut_line, line}
use Rattle.decision_objects.specs.Objects.{cut_object, object_of}

-- ---- one object

-- two events whose objects are the same text have the same decision line, whatever they were answered
abbrev pub ObjectsReadBack : Type 0
ObjectsReadBack =
    (m n : ℕ) (e f : Event) (named other : Option ℕ) (x y : Answer)
    → object_of m e named x ≡ object_of n f other y
    → line m e (answer_text named x) ≡ line n f (answer_text other y)

-- and so have two captures that end with a cut rest
abbrev pub CutsReadBack : Type 0
CutsReadBack = (c d : Cut) → cut_object c ≡ cut_object d → cut_line c ≡ cut_line d

-- ---- whole outputs

-- an event of this number with what it was answered, and of a change the segment that it names; or a cut capture
pub data Subject : Type 0 where
  OfEvent : (number : ℕ) (event : Event) (named : Option ℕ) (answer : Answer) → Subject
  OfCut : (cut : Cut) → Subject

-- its object
abbrev pub object_about : Subject → List ℕ
object_about (OfEvent number e named a) = object_of number e named a
object_about (OfCut cut) = cut_object cut

-- its line
abbrev pub line_about : Subject → List ℕ
line_about (OfEvent number e named a) = line number e (answer_text named a)
line_about (OfCut cut) = cut_line cut

-- two outputs of objects that are the same text have the same lines, one by one
abbrev pub OutputsReadBack : Type 0
OutputsReadBack = (a b : List Subject) → flat_map object_about a ≡ flat_map object_about b → map line_about a ≡ map line_about b
