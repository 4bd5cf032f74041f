-- Whoever writes objects, as an event is answered.
use Rattle.std.proofs.Common.{◌≡◌, ◌∙◌, ap, sym, subst, List}
use Rattle.filter_db.specs.declared.place.Place.{Place}
use Rattle.endpoint_core.specs.Settings.{Settings}
use Rattle.endpoint_core.specs.Forwarding.{Forwarding, decision_of}
use Rattle.endpoint_core.specs.Step.{Answer, Decided}
use Rattle.stream_run.specs.Sights.{Due, answered as answered_as}
use Rattle.decision_objects.specs.Objects.{object_text}
use Rattle.decision_objects.specs.Onlooking.{Expects, Objects, Sees}
use Rattle.decision_objects.specs.Writing.{Tells, Told}

pub answered : (old opened : Objects) (last : Told) (a : Answer) → opened ≡ old → Tells opened.told last (object_text opened.origin opened.named a)
    → Tells old.told last (object_text old.origin old.named a)
answered old opened last a is told = subst (λ (o : Objects). Tells o.told last (object_text o.origin o.named a)) is told

pub decided : (old opened : Objects) (last : Told) (S : Settings) (k same : Forwarding) (places : List Place) → opened ≡ old → k ≡ same
    → Tells opened.told last (object_text opened.origin opened.named (Decided (decision_of S same places)))
    → Tells old.told last (object_text old.origin old.named (Decided (decision_of S k places)))
decided old opened last S k same places is forwarding told =
    answered old opened last (Decided (decision_of S k places)) is
    (subst (λ (x : Forwarding). Tells opened.told last (object_text opened.origin opened.named (Decided (decision_of S x places)))) (sym forwarding) told)

-- an event that was seen is answered
pub seen_answered : (before old new : Objects) (d : Due) (a : Answer) → Expects before d old → new.changes ≡ old.changes
    → Tells old.told new.told (object_text old.origin old.named a) → Sees before (answered_as d a) new
seen_answered before old new d a is changes told = (
  changes ∙ ap (λ (o : Objects). o.changes) is,
  subst (λ (o : Objects). Tells o.told new.told (object_text o.origin o.named a)) is told,
)
