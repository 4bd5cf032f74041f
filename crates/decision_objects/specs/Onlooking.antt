-- Whoever writes an object for each event that it sees. It states no standard.
--     Objects      what its output was told, and the event that it saw last
--     Expects, Sees      an event more comes; and is answered
--     objects_of      the objects of a whole run
use Rattle.std.specs.Prelude.{◌≡◌, ℕ, List, Option, Some, None}
use Rattle.overlay.specs.declared.settings.change.TimedChange.{TimedChange}
use Rattle.timeline.specs.declared.event.Event.{Event}
use Rattle.endpoint_core.specs.Step.{Answer}
use Rattle.capture_run.specs.Outputs.{named_by}
use Rattle.stream_run.specs.Sights.{Due, Sight}
use Rattle.stream_run.specs.Steps.{changes_of}
use Rattle.decision_objects.specs.Objects.{object_of, origin_of}
use Rattle.decision_objects.specs.Writing.{Tells, Told}
use Rattle.decision_objects.specs.declared.origin.Origin.{Origin}

-- what was told, the changes of the run, and of the event seen last where it stands and which segment it names as a change
pub record Objects : Type 0 where
  pub told : Told
  pub changes : List TimedChange
  pub origin : Origin
  pub named : Option ℕ

-- the segment that an event names as a change
abbrev pub named_in : List TimedChange → Event → Option ℕ
named_in changes e = named_by (changes_of changes) e.happening

-- an event comes
abbrev pub expecting : Objects → ℕ → Event → Objects
expecting old number e = record { told = old.told; changes = old.changes; origin = origin_of number e; named = named_in old.changes e }

-- ---- steps

-- an event more came
abbrev pub Expects : Objects → Due → Objects → Type 0
Expects old d new = new ≡ expecting old d.number d.event

-- an event more came and was answered, and its object was written; nothing of one that isn't told
abbrev pub SeesReply : Objects → Due → Option Answer → Objects → Type 0
SeesReply old d (Some a) new =
    (new.changes ≡ old.changes) × Tells old.told new.told (object_of d.number d.event (named_in old.changes d.event) a)
SeesReply old d None new = new ≡ old

-- the same of what was seen
abbrev pub Sees : Objects → Sight → Objects → Type 0
Sees old s new = SeesReply old (record { state = s.state; number = s.number; event = s.event }) s.reply new
