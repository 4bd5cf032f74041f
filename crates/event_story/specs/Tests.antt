-- Which tests are told: all up to the one that refuses. It states no standard.
use Rattle.std.specs.Prelude.{ℕ, ◌==◌, ◌++◌, Bool, false, if◌then◌else◌, List, [], ◌∷◌, Option, Some, None, Result, Ok, Err}
use Rattle.std.specs.Option.{option_to_list}
use Rattle.wire.specs.Reason.{number_of}
use Rattle.wire.specs.declared.ether.reason.Reason.{Reason}
use Rattle.wire.specs.declared.ether.reason.Refused.{Refused}
use Rattle.endpoint_core.specs.Arrival.{Arrival}
use Rattle.event_story.specs.declared.fact.Fact.{Fact}

-- why a frame comes to no segment, if it doesn't
abbrev pub refusal_of : Result Arrival Refused → Option Reason
refusal_of (Ok x) = None
refusal_of (Err refused) = Some refused.reason

-- a test is the one that refuses
abbrev pub refuses : Option Reason → Reason → Bool
refuses None test = false
refuses (Some reason) test = number_of reason == number_of test

-- what tests saw, in their order, up to the one that refuses; some have nothing to tell
abbrev pub told : (Reason → Option Fact) → Option Reason → List Reason → List Fact
told saw refusal [] = []
told saw refusal (test ∷ tests) = option_to_list (saw test) ++ (if refuses refusal test then [] else told saw refusal tests)
