-- What is decided of a frame or a packet. It states no standard.
--     Sent      what came of one outlet
--     Decision      the outcomes, octet for octet, or why there are none
--     Decided      the same with each emission in its parts
use Rattle.std.specs.Prelude.{◌≤◌, ℕ, Bool, false, List, [], length, map, IfOk, Option, Some, None, Result}
use Rattle.wire.specs.declared.ether.reason.Reason.{Reason}
use Rattle.wire.specs.declared.ether.reason.Refused.{Refused}
use Rattle.filter_db.specs.declared.place.Place.{Place}
use Rattle.encapsulate.specs.Remote.{texts}
use Rattle.endpoint_core.specs.declared.decision.Outcome.{Outcome}

-- the octets that leave at a place, or why none do
pub record Sent : Type 0 where
  pub place : Place
  pub sent : Result (List ℕ) Reason

-- what is decided of a frame or a packet
pub record Decision : Type 0 where
  -- the segment, where the frame or packet came so far
  pub segment : Option ℕ
  -- why it goes nowhere, where it does
  pub dropped : Option Reason
  -- its segment has two tunnels
  pub two_tunnels : Bool
  -- one for each outlet, in order
  pub outcomes : List Sent

-- a frame that goes nowhere
abbrev pub dropped_in : Option ℕ → Reason → Decision
dropped_in segment reason = record { segment = segment; dropped = Some reason; two_tunnels = false; outcomes = [] }

-- the same of a refusal
abbrev pub refused_as : Refused → Decision
refused_as r = dropped_in r.segment r.reason

-- a frame that leaves, with what came of each outlet
abbrev pub forwarded : ℕ → Bool → List Sent → Decision
forwarded vid two_tunnels outcomes = record { segment = Some vid; dropped = None; two_tunnels = two_tunnels; outcomes = outcomes }

-- ---- in parts

-- the same with emissions in their parts
pub record Decided : Type 0 where
  pub segment : Option ℕ
  pub dropped : Option Reason
  pub two_tunnels : Bool
  pub outcomes : List Outcome

-- the body of what is sent is no longer than a packet that comes in
abbrev pub IsShort : Outcome → Type 0
IsShort o = IfOk o.sent (λ e. length e.body ≤ 65549)

-- an outcome as octets
abbrev pub sent_of : Outcome → Sent
sent_of o = record { place = o.place; sent = texts o.sent }

-- a decision as octets
abbrev pub octets_of : Decided → Decision
octets_of d = record { segment = d.segment; dropped = d.dropped; two_tunnels = d.two_tunnels; outcomes = map sent_of d.outcomes }
