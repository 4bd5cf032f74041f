-- Where a frame or a packet goes, with the places in a list beside it. It states no standard.
use Rattle.std.specs.Prelude.{◌≡◌, ◌≤◌, All, List, [], length, map, IsSome, IsTrue, Result, Ok, Err}
use Rattle.std.specs.List.{list_all}
use Rattle.wire.specs.declared.ether.reason.Refused.{Refused}
use Rattle.filter_db.specs.declared.place.Place.{Place}
use Rattle.endpoint_core.specs.Settings.{Settings, segment_at}
use Rattle.endpoint_core.specs.StateStep.{can_leave}
use Rattle.endpoint_core.specs.Arrival.{Arrival}
use Rattle.endpoint_core.specs.declared.decision.Outcome.{Outcome}
use Rattle.endpoint_core.specs.Arrival.{emitted_parts}
use Rattle.endpoint_core.specs.Decision.{Decision, refused_as}
use Rattle.endpoint_core.specs.Step.{by_verdict, outcome_at}

-- where a frame or a packet goes: to the places, as this frame, or nowhere for this reason
abbrev pub Forwarding : Type 0
Forwarding = Result Arrival Refused

-- the decision that it tells, by the settings in force
abbrev pub decision_of : Settings → Forwarding → List Place → Decision
decision_of S (Err refused) places = refused_as refused
decision_of S (Ok x) places = by_verdict S x (Ok places)

-- a frame that leaves comes to a segment that is there
abbrev pub IsThere : Settings → Forwarding → Type 0
IsThere S (Err refused) = Unit {0}
IsThere S (Ok x) = IsSome (segment_at S x.vid)

-- and is short
abbrev pub IsShortFrame : Forwarding → Type 0
IsShortFrame (Err refused) = Unit {0}
IsShortFrame (Ok x) = length x.frame.body ≤ 65549

-- and can leave at each place
abbrev pub CanLeave : Settings → Forwarding → List Place → Type 0
CanLeave S (Err refused) places = Unit {0}
CanLeave S (Ok x) places = IsTrue (list_all (can_leave S x.vid) places)

-- no place of an earlier event is left where nothing leaves
abbrev pub IsEmptied : Forwarding → List Place → Type 0
IsEmptied (Err refused) places = places ≡ []
IsEmptied (Ok x) places = Unit {0}

-- the frame that leaves is the one that came
abbrev pub IsOfWhatCame : Result Arrival Refused → Forwarding → Type 0
IsOfWhatCame came (Err refused) = Unit {0}
IsOfWhatCame came (Ok x) = came ≡ Ok x

-- where a frame that came goes, as it is forwarded or refused
abbrev pub forwarding_of : Result (Unit {0}) Refused → Arrival → Forwarding
forwarding_of (Ok done) x = Ok x
forwarding_of (Err refused) x = Err refused

-- ---- in parts

-- what comes of each place
abbrev pub outcomes_of : Settings → Forwarding → List Place → List Outcome
outcomes_of S (Err refused) places = []
outcomes_of S (Ok x) places = map (outcome_at S x.vid x.frame) places

-- each outcome of what came has the parts in which the frame leaves at its place
abbrev pub AreInParts : Settings → Result Arrival Refused → List Outcome → Type 0
AreInParts S (Ok x) outcomes = All (λ o. o.sent ≡ emitted_parts S.ports S.overlay x.vid x.frame o.place) outcomes
AreInParts S (Err refused) outcomes = outcomes ≡ []
