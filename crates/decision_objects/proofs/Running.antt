-- Objects over a whole run.
use Rattle.std.proofs.Common.{◌≡◌, ◌∙◌, ap, sym, subst, ℕ, List, [], ◌∷◌, Option, Some, None}
use Rattle.std.specs.List.{FoldsTo}
use Rattle.overlay.specs.declared.settings.change.TimedChange.{TimedChange}
use Rattle.timeline.specs.declared.event.Event.{Event}
use Rattle.endpoint_core.specs.Settings.{Settings}
use Rattle.endpoint_core.specs.Step.{Answer, opened}
use Rattle.segment_set.specs.Segments.{Segments}
use Rattle.stream_run.specs.Sights.{Sight, sights}
use Rattle.stream_run.specs.Steps.{changes_of}
use Rattle.decision_objects.specs.Objects.{object_of}
use Rattle.decision_objects.specs.Onlooking.{Objects, Sees, SeesReply, named_in}
use Rattle.decision_objects.specs.Run.{IsWritten, object_in, objects_of, reply_object}
use Rattle.decision_objects.specs.Writing.{Tells}
use Rattle.decision_objects.proofs.Growing.{tells_more, tells_nothing}

stays : (old : Objects) (s : Sight) (new : Objects) (r : Option Answer) → SeesReply old (record { state = s.state; number = s.number; event = s.event }) r new → new.changes ≡ old.changes
stays old s new (Some a) is = is.0
stays old s new None is = ap (λ (o : Objects). o.changes) is

one : (old : Objects) (s : Sight) (new : Objects) (r : Option Answer) → SeesReply old (record { state = s.state; number = s.number; event = s.event }) r new
    → Tells old.told new.told (reply_object old.changes s.number s.event r)
one old s new (Some a) is = is.1
one old s new None is = tells_nothing old.told new.told (ap (λ (o : Objects). o.told) is)

folded : (seen : List Sight) (changes : List TimedChange) (begun ended : Objects) → begun.changes ≡ changes → FoldsTo Sees begun seen ended
    → Tells begun.told ended.told (objects_of changes seen)
folded [] changes begun ended is h = tells_nothing begun.told ended.told (ap (λ (o : Objects). o.told) (sym h))
folded (s ∷ seen) changes begun ended is h =
    let mid : Objects = h.0 in
    let here : Tells begun.told mid.told (object_in changes s) =
    subst (λ (cs : List TimedChange). Tells begun.told mid.told (object_in cs s)) is (one begun s mid s.reply h.1) in
    tells_more begun.told mid.told ended.told (object_in changes s) (objects_of changes seen) here
    (folded seen changes mid ended (stays begun s mid s.reply h.1 ∙ is) h.2)

pub whole_run : (segments : Segments) (S : Settings) (changes : List TimedChange) (es : List Event) (begun ended : Objects)
    → IsWritten segments S changes es begun ended → Tells begun.told ended.told (objects_of changes (sights segments (changes_of changes) (opened S) 0 es))
whole_run segments S changes es begun ended is = folded (sights segments (changes_of changes) (opened S) 0 es) changes begun ended is.of is.seen
