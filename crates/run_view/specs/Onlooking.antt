-- Whoever writes the view of a run as it goes. It states no standard.
--     View      what its output was told, and the event that it saw last
--     Expects, Sees      an event more comes; and is answered
--     Ends      the run ends
use Rattle.std.specs.Prelude.{◌≡◌, ℕ, Bool, true, List, [], ◌++◌, Option, Some, None, if◌then◌else◌}
use Rattle.overlay.specs.declared.settings.change.TimedChange.{TimedChange}
use Rattle.endpoint_core.specs.Step.{Answer, State}
use Rattle.stream_run.specs.Sights.{Due, Sight}
use Rattle.decision_objects.specs.Writing.{Tells, Told}
use Rattle.run_view.specs.Blocks.{Item, head_text, text_of}
use Rattle.run_view.specs.View.{items_of, seen_of}
use Rattle.run_view.specs.declared.seen.Seen.{Seen}

-- what was told, whether the head was, how many ports there are and the changes of the run, and the event that was seen last
pub record View : Type 0 where
  pub told : Told
  pub is_begun : Bool
  pub ports : ℕ
  pub changes : List TimedChange
  pub seen : Seen

-- the head, where it wasn't told yet
abbrev pub head_before : View → List ℕ
head_before v = if v.is_begun then [] else head_text v.ports

-- ---- steps

-- all is as before but what was told
pub record IsStill (old new : View) : Type 0 where
  pub begun : new.is_begun ≡ old.is_begun
  pub ports : new.ports ≡ old.ports
  pub changes : new.changes ≡ old.changes
  pub seen : new.seen ≡ old.seen

-- the head was told, and behind it these items; it is the view of the same run
pub record Shows (old : View) (items : List Item) (new : View) : Type 0 where
  pub told : Tells old.told new.told (head_before old ++ text_of items)
  pub begun : new.is_begun ≡ true
  pub ports : new.ports ≡ old.ports
  pub changes : new.changes ≡ old.changes

-- an event more came
pub record Expects (old : View) (d : Due) (new : View) : Type 0 where
  pub shows : Shows old [] new
  pub seen : new.seen ≡ seen_of old.ports old.changes d.number d.event

-- an event more came and was answered, and this was told; nothing of one that isn't told
abbrev pub SeesReply : View → Due → Option Answer → View → Type 0
SeesReply old d (Some a) new =
    Shows old (items_of old.ports (seen_of old.ports old.changes d.number d.event) a) new
    × (new.seen ≡ seen_of old.ports old.changes d.number d.event)
SeesReply old d None new = new ≡ old

-- the same of what was seen
abbrev pub Sees : View → Sight → View → Type 0
Sees old s new = SeesReply old (record { state = s.state; number = s.number; event = s.event }) s.reply new

-- the end: where no event was told, the head is
abbrev pub Ends : View → State → View → Type 0
Ends old state new = Shows old [] new × (new.seen ≡ old.seen)
