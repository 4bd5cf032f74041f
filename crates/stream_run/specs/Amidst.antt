-- What stands of one event's texts where a write failed among them. It states no standard.
--     with_first      the outputs with the records of an event's first outlets, and behind all of them with its line
--     StandAmidst      some of these stand, and of the one that comes next a part
--     StandsInEvent      the same of an event of a run
use Rattle.std.specs.Prelude.{◌≡◌, ◌≤◌, ⊤, ℕ, ◌+◌, nat_lt, if◌then◌else◌, List, [], ◌∷◌, ◌++◌, length, take, Option, Result, Ok, Err}
use Rattle.timeline.specs.declared.event.Event.{Event}
use Rattle.overlay.specs.declared.settings.change.Change.{Change}
use Rattle.endpoint_core.specs.Decision.{Sent}
use Rattle.endpoint_core.specs.Step.{Answer, Decided, Replied, State, answer}
use Rattle.capture_run.specs.Outputs.{Outputs, event_of, named_by}
use Rattle.capture_run.specs.Writing.{with_all_sent, with_input}
use Rattle.stream_run.specs.Stage.{Drains, StandBetween}
use Rattle.stream_run.specs.declared.fault.StreamFault.{StreamFault}
use Rattle.stream_run.specs.declared.fault.StreamFault.TheVariants as stream
use Rattle.stream_run.specs.declared.fault.Target.{Target}

-- what came of each outlet, in order; a change has none
abbrev pub outcomes_of : Answer → List Sent
outcomes_of (Decided decision) = decision.outcomes
outcomes_of (Replied fault) = []

-- the outputs with the records of the first j outlets of an event; where it has fewer, with all of them and with its line
abbrev pub with_first : ℕ → ℕ → Option ℕ → Outputs → Event → Answer → Outputs
with_first j number named o e a =
    if nat_lt (length (outcomes_of a)) j then with_input number named o e a else with_all_sent e.moment o (take j (outcomes_of a))

-- one j for all outputs: the records of the first j outlets stand, at most a part of what comes next, and nothing of what
-- comes behind that
pub record StandAmidst (old new : Drains) (number : ℕ) (named : Option ℕ) (o : Outputs) (e : Event) (a : Answer) : Type 0 where
  pub j : ℕ
  pub most : j ≤ length (outcomes_of a)
  pub stands : StandBetween old new (with_first j number named o e a) (with_first (j + 1) number named o e a)

-- amidst an event of this number, which comes to an endpoint in this state
abbrev pub StandsInEvent : List Change → Drains → Drains → ℕ → State → Outputs → Event → Type 0
StandsInEvent changes old new number s o e = StandAmidst old new number (named_by changes e.happening) o e (answer s (event_of changes e))

-- ---- the steps of an event

module _ {T : Type 0} where
  -- of some outcomes the first ones were put, and where an output failed a part of the next one
  abbrev pub SendsInOrder : Drains → Drains → ℕ → Outputs → List Sent → Result T Target → Type 0
  SendsInOrder start new moment o outcomes (Ok x) = ⊤
  SendsInOrder start new moment o outcomes (Err target) =
      (front : List Sent) × (x : Sent) × (behind : List Sent) × (outcomes ≡ front ++ x ∷ behind)
      × StandBetween start new (with_all_sent moment o front) (with_all_sent moment o (front ++ x ∷ []))

  -- an output failed amidst an event
  abbrev pub PutsInOrder : Drains → Drains → ℕ → Option ℕ → Outputs → Event → Answer → Result T Target → Type 0
  PutsInOrder start new number named o e a (Ok x) = ⊤
  PutsInOrder start new number named o e a (Err target) = StandAmidst start new number named o e a

  -- the same of an event of a run
  abbrev pub StepsInOrder : List Change → Drains → Drains → ℕ → State → Outputs → Event → Result T StreamFault → Type 0
  StepsInOrder changes start new number s o e (Err (stream.Write target)) = StandsInEvent changes start new number s o e
  StepsInOrder changes start new number s o e result = ⊤
