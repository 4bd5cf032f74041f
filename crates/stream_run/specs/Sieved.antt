-- What a run takes in of its events. It states no standard.
--     kept      an event that is taken in, or nothing of one that is left out
--     all_taken      of some events, all
--     taken_with      by what texts mean
--     settings_behind      the settings in force behind what happens
--     Asked      a sieve, and the settings in force when it is asked
use Rattle.std.proofs.Common.{◌≡◌, refl, Bool, if◌then◌else◌, List, [], ◌∷◌, Option, Some, None}
use Rattle.std.specs.Prelude.{slice_get, Ok, Err}
use Rattle.overlay_config.specs.Fault.{Meaning}
use Rattle.overlay_config.specs.Settings.{Settings as Told}
use Rattle.overlay.specs.declared.settings.change.TimedChange.{TimedChange}
use Rattle.timeline.specs.declared.event.Event.{Event}
use Rattle.timeline.specs.declared.event.Happening.{Happening}
use Rattle.timeline.specs.declared.event.Happening.TheVariants as happenings
use Rattle.endpoint_core.specs.Change.{changed}
use Rattle.endpoint_core.specs.Opened.{settings_told}
use Rattle.endpoint_core.specs.Settings.{Settings}

-- an event, as a sieve has it: itself, or nothing
abbrev pub kept : Bool → Event → List Event
kept takes e = if takes then e ∷ [] else []

-- where nothing is left out
abbrev pub all_taken : List Event → List Event
all_taken es = es

-- so of none none is taken in
pub none_taken : all_taken [] ≡ []
none_taken = refl

-- what a sieve takes in of a run, by what the texts of its settings and of its changes mean; without them there is none
abbrev pub taken_with : (Settings → List TimedChange → List Event → List Event) → Meaning Told → Meaning (List TimedChange)
    → List Event → List Event
taken_with taken (Ok s) (Ok changes) = taken (settings_told s) changes
taken_with taken (Ok s) (Err fault) = all_taken
taken_with taken (Err fault) c = all_taken

-- ---- the settings in force

-- behind a change, or behind none
abbrev pub changed_by : Option TimedChange → Settings → Settings
changed_by None S = S
changed_by (Some c) S = changed S c.change

-- behind what happens: the change of this index is made or refused, and a record changes nothing. They depend on the settings
-- before and on the change alone, whatever stands in the tables of an endpoint
abbrev pub settings_behind : List TimedChange → Happening → Settings → Settings
settings_behind changes (happenings.Change index) S = changed_by (slice_get changes index) S
settings_behind changes (happenings.Record tap captured) S = S

-- ---- a sieve that is asked

-- a sieve, and the settings in force
pub record Asked (S : Type 0) : Type 0 where
  pub sieve : S
  pub settings : Settings

module _ {S : Type 0} where
  -- the same, made of what a call is lent
  abbrev pub asked : S → Settings → Asked S
  asked sieve settings = record { sieve = sieve; settings = settings }

  -- what it takes in of some events
  abbrev pub taken_by : (S → Settings → List TimedChange → List Event → List Event) → List TimedChange → Asked S → List Event → List Event
  taken_by taken changes a = taken a.sieve a.settings changes

  -- being asked about an event makes the second of the first, at the settings behind the event
  abbrev pub GoesBy : (S → Settings → List TimedChange → Event → S → Type 0) → List TimedChange → Asked S → Event → Asked S → Type 0
  GoesBy goes changes a e b = goes a.sieve a.settings changes e b.sieve × (b.settings ≡ settings_behind changes e.happening a.settings)
