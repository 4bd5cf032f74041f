-- The objects of a whole run. It states no standard.
use Rattle.std.specs.Prelude.{◌≡◌, ℕ, false, List, [], Option, Some, None}
use Rattle.std.specs.List.{FoldsTo, flat_map}
use Rattle.overlay.specs.declared.settings.change.TimedChange.{TimedChange}
use Rattle.timeline.specs.declared.event.Event.{Event}
use Rattle.endpoint_core.specs.Settings.{Settings}
use Rattle.endpoint_core.specs.Step.{Answer, opened}
use Rattle.segment_set.specs.Segments.{Segments}
use Rattle.stream_run.specs.Sights.{Sight, sights}
use Rattle.stream_run.specs.Steps.{changes_of}
use Rattle.decision_objects.specs.Objects.{object_of}
use Rattle.decision_objects.specs.Onlooking.{Objects, Sees, named_in}
use Rattle.decision_objects.specs.Writing.{Tells}

-- of an event that is told
abbrev pub reply_object : List TimedChange → ℕ → Event → Option Answer → List ℕ
reply_object changes number e (Some a) = object_of number e (named_in changes e) a
reply_object changes number e None = []

-- of what was seen
abbrev pub object_in : List TimedChange → Sight → List ℕ
object_in changes s = reply_object changes s.number s.event s.reply

-- one behind another
abbrev pub objects_of : List TimedChange → List Sight → List ℕ
objects_of changes seen = flat_map (object_in changes) seen

-- whoever writes objects looked on from the begin of a run of these segments, with these changes, to its end
pub record IsWritten (segments : Segments) (S : Settings) (changes : List TimedChange) (es : List Event) (begun ended : Objects)
    : Type 0 where
  pub of : begun.changes ≡ changes
  pub seen : FoldsTo Sees begun (sights segments (changes_of changes) (opened S) 0 es) ended

-- behind such a run, of any events, the objects of those that are told were written; or the front of that at which the output
-- failed
abbrev pub WritesRuns : Type 0
WritesRuns =
    (segments : Segments) (S : Settings) (changes : List TimedChange) (es : List Event) (begun ended : Objects)
    → IsWritten segments S changes es begun ended
    → Tells begun.told ended.told (objects_of changes (sights segments (changes_of changes) (opened S) 0 es))
