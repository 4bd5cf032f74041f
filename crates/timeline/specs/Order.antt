-- The order of events. It states no standard.
use Rattle.std.specs.Prelude.{◌≡◌, ◌≤◌, ℕ, Bool, ◌==◌, nat_lt, if◌then◌else◌, List, [], ◌∷◌, filter}
use Rattle.timeline.specs.Events.{events_of}
use Rattle.timeline.specs.declared.capture.Opened.{Opened}
use Rattle.timeline.specs.declared.event.Event.{Event}

-- moments that never fall, from this one on
abbrev pub IsRising : ℕ → List Event → Type 0
IsRising least [] = Unit {0}
IsRising least (e ∷ es) = (least ≤ e.moment) × IsRising e.moment es

-- the events of one moment
abbrev pub at : ℕ → List Event → List Event
at moment es = filter (λ e. e.moment == moment) es

-- all events in order of moment; those of one moment are the same, in the same order
pub record IsInOrder (all es : List Event) : Type 0 where
  pub rising : IsRising 0 es
  pub stable : (moment : ℕ) → at moment es ≡ at moment all

-- an event is put in front of those of its moment and of later ones
abbrev pub put_in : Event → List Event → List Event
put_in e [] = e ∷ []
put_in e (f ∷ fs) = if nat_lt f.moment e.moment then f ∷ put_in e fs else e ∷ f ∷ fs

-- the events in order
abbrev pub merged : List Event → List Event
merged [] = []
merged (e ∷ es) = put_in e (merged es)

-- two laws: they are in order, and no other list is
abbrev pub MergedIsInOrder : Type 0
MergedIsInOrder = (all : List Event) → IsInOrder all (merged all)

-- and there is no other such list
abbrev pub NothingElseIsInOrder : Type 0
NothingElseIsInOrder = (all es : List Event) → IsInOrder all es → es ≡ merged all

-- two more: the events of a capture rise, and events that rise among all, as those of one capture do, stay in their order
abbrev pub CapturesRise : Type 0
CapturesRise = (c : Opened) → IsRising 0 (events_of c)

-- what rises among all stays in its order
abbrev pub KeepsWhatRises : Type 0
KeepsWhatRises = (test : Event → Bool) (all : List Event)
    → IsRising 0 (filter test all) → filter test (merged all) ≡ filter test all
