-- Whoever writes a view, as an event is answered.
use Rattle.std.proofs.Common.{◌≡◌, ◌∙◌, sym, subst, ℕ, Bool, true, List, [], ◌++◌}
use Rattle.std.specs.Prelude.{if◌then◌else◌}
use Rattle.endpoint_core.specs.Step.{Answer}
use Rattle.stream_run.specs.Sights.{Due, answered as answered_as}
use Rattle.decision_objects.specs.Writing.{Tells}
use Rattle.run_view.specs.Blocks.{Item, head_text, text_of}
use Rattle.run_view.specs.Onlooking.{Expects, IsStill, Sees, Shows, View}
use Rattle.run_view.specs.View.{items_of, seen_of}
use Rattle.run_view.specs.declared.seen.Seen.{Seen}
use Rattle.run_view.proofs.Views.{shows_more}

-- behind the head items are told alone
pub shown_behind : (old new : View) (items : List Item) → old.is_begun ≡ true → IsStill old new → Tells old.told new.told (text_of items) → Shows old items new
shown_behind old new items begun still told = record {
  told = subst (λ (v : Bool). Tells old.told new.told ((if v then [] else head_text old.ports) ++ text_of items)) (sym begun) told;
  begun = still.begun ∙ begun;
  ports = still.ports;
  changes = still.changes;
}

-- an event that was seen is answered
pub seen_answered : (before old new : View) (d : Due) (a : Answer) → Expects before d old → IsStill old new
    → Tells old.told new.told (text_of (items_of old.ports old.seen a)) → Sees before (answered_as d a) new
seen_answered before old new d a expects still told =
    let seen = seen_of before.ports before.changes d.number d.event in
    let here : Tells old.told new.told (text_of (items_of before.ports seen a)) =
    subst (λ (n : ℕ). Tells old.told new.told (text_of (items_of n seen a))) expects.shows.ports
    (subst (λ (s : Seen). Tells old.told new.told (text_of (items_of old.ports s a))) expects.seen told) in (
      shows_more before old new [] (items_of before.ports seen a) expects.shows (shown_behind old new (items_of before.ports seen a) expects.shows.begun still here),
      still.seen ∙ expects.seen,
    )
