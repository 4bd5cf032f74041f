-- What is counted of a run, by the events that came and by what they were answered. It states no standard. A count ends at
-- the greatest number of 64 bits.
--     flow_of      frames or packets, and their octets together
--     sizes_from, sizes_to      those that came from a place, and those that left there
--     refusals      the changes that were refused for a cause
--     partial_in      the packets whose checksums were left to the card
--     Totals, totals_of      all of it
use Rattle.std.specs.Prelude.{ℕ, ◌+◌, ◌==◌, Bool, true, false, if◌then◌else◌, min, List}
use Rattle.std.specs.Prelude.{[], ◌∷◌, length, count_by, Option, Some, None, Ok, Err}
use Rattle.std.specs.List.{filter_map, flat_map, sum}
use Rattle.decapsulate.specs.Card.{is_left_to_card}
use Rattle.filter_db.specs.declared.place.Place.{Place}
use Rattle.filter_db.specs.declared.place.Place.TheVariants.{Local, Remote}
use Rattle.timeline.specs.declared.event.Event.{Event}
use Rattle.timeline.specs.declared.event.Happening.{Happening}
use Rattle.timeline.specs.declared.event.Happening.TheVariants as happenings
use Rattle.timeline.specs.declared.source.Tap.{Tap}
use Rattle.timeline.specs.declared.source.Tap.TheVariants.{Port, Underlay}
use Rattle.endpoint_core.specs.declared.state.fault.ChangeFault.{ChangeFault}
use Rattle.endpoint_core.specs.Fault.{number_of}
use Rattle.endpoint_core.specs.Counts.{most}
use Rattle.endpoint_core.specs.Decision.{Sent}
use Rattle.endpoint_core.specs.Step.{Answer, Decided, Replied}
use Rattle.run_counts.specs.declared.flow.Flow.{Flow}

-- ---- frames and octets

-- frames or packets of these sizes
abbrev pub flow_of : List ℕ → Flow
flow_of sizes = record { frames = min most (length sizes); octets = min most (sum sizes) }

-- what passed here and there, together
abbrev pub flow_with : Flow → Flow → Flow
flow_with a b = record { frames = min most (a.frames + b.frames); octets = min most (a.octets + b.octets) }

-- equality as a test
abbrev pub same_tap : Tap → Tap → Bool
same_tap (Port p) (Port q) = p == q
same_tap (Port p) Underlay = false
same_tap Underlay (Port q) = false
same_tap Underlay Underlay = true

-- a size, where it is that of what passed here
abbrev pub at_tap : Tap → Tap → ℕ → Option ℕ
at_tap tap here size = if same_tap tap here then Some size else None

-- ---- what came

-- the octets that were captured of a frame or a packet, where it came from this place
abbrev pub size_from : Tap → Happening → Option ℕ
size_from tap (happenings.Change index) = None
size_from tap (happenings.Record here captured) = at_tap tap here (length captured.octets)

-- of all that came from a place, in order
abbrev pub sizes_from : Tap → List Event → List ℕ
sizes_from tap es = filter_map (λ (e : Event). size_from tap e.happening) es

-- ---- what left

-- where what is sent leaves: all remote endpoints are reached by the underlay
abbrev pub tap_of : Place → Tap
tap_of (Local port) = Port port
tap_of (Remote kind addr) = Underlay

-- the octets of an outcome, where it was sent and left here
abbrev pub size_to : Tap → Sent → Option ℕ
size_to tap o = elim o.sent [ Ok octets ↦ at_tap tap (tap_of o.place) (length octets) | Err reason ↦ None ]

-- the outcomes of an answer
abbrev pub outcomes_in : Answer → List Sent
outcomes_in (Decided decision) = decision.outcomes
outcomes_in (Replied fault) = []

-- of all that left at a place, in order
abbrev pub sizes_to : Tap → List Answer → List ℕ
sizes_to tap given = filter_map (size_to tap) (flat_map outcomes_in given)

-- ---- refused changes

-- why a change was refused, where it was
abbrev pub faults_in : Answer → List ChangeFault
faults_in (Replied (Some fault)) = fault ∷ []
faults_in (Replied None) = []
faults_in (Decided decision) = []

-- equality as a test
abbrev pub same_fault : ChangeFault → ChangeFault → Bool
same_fault f g = number_of f == number_of g

-- how often a change was refused for a cause
abbrev pub refusals : ChangeFault → List Answer → ℕ
refusals fault given = min most (count_by (same_fault fault) (flat_map faults_in given))

-- ---- checksums

-- a text came from the underlay, and is a packet whose UDP checksum its sender left to its network card
abbrev pub is_partial_at : Tap → List ℕ → Bool
is_partial_at (Port port) b = false
is_partial_at Underlay b = is_left_to_card b

-- the same of what happens
abbrev pub is_partial : Happening → Bool
is_partial (happenings.Change index) = false
is_partial (happenings.Record tap captured) = is_partial_at tap captured.octets

-- how many of these came
abbrev pub partial_in : List Event → ℕ
partial_in es = min most (count_by (λ (e : Event). is_partial e.happening) es)

-- ---- all of it

-- what came from each place, what left there, the refused changes by their causes, and the checksums left to the card
pub record Totals : Type 0 where
  pub came : Tap → Flow
  pub left : Tap → Flow
  pub refused : ChangeFault → ℕ
  pub partial : ℕ

-- of these events and answers
abbrev pub totals_of : List Event → List Answer → Totals
totals_of es given = record {
  came = λ tap. flow_of (sizes_from tap es);
  left = λ tap. flow_of (sizes_to tap given);
  refused = λ fault. refusals fault given;
  partial = partial_in es;
}
