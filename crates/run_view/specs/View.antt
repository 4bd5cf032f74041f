-- The view of a run: its events and what left, as the blocks of a capture. It states no standard.
--     items_of      what is told of an event and its answer: what came, and what left of it; of a change its line
--     cut_item      the same of a capture that is cut
use Rattle.std.specs.Prelude.{ℕ, ◌-◌, List, [], ◌∷◌, length, take, Result, Ok, Err, Bool}
use Rattle.std.specs.List.{flat_map}
use Rattle.wire.specs.declared.ether.reason.Reason.{Reason}
use Rattle.pcap.specs.Record.{longest}
use Rattle.filter_db.specs.declared.place.Place.{Place}
use Rattle.filter_db.specs.declared.place.Place.TheVariants.{Local, Remote}
use Rattle.overlay.specs.declared.settings.change.TimedChange.{TimedChange}
use Rattle.timeline.specs.declared.event.Event.{Event}
use Rattle.timeline.specs.declared.event.Happening.{Happening}
use Rattle.timeline.specs.declared.event.Happening.TheVariants as happenings
use Rattle.timeline.specs.declared.source.Source.{Source}
use Rattle.timeline.specs.declared.source.Source.TheVariants as sources
use Rattle.timeline.specs.declared.source.Tap.TheVariants as taps
use Rattle.timeline.specs.declared.timeline.Cut.{Cut}
use Rattle.endpoint_core.specs.Decision.{Sent}
use Rattle.endpoint_core.specs.Step.{Answer, Decided, Replied}
use Rattle.decision_objects.specs.Objects.{origin_of}
use Rattle.decision_objects.specs.Onlooking.{named_in}
use Rattle.run_view.specs.Blocks.{Item, Noted, Shown, comment_of, inbound, outbound}
use Rattle.run_view.specs.Told.{cut_text, left_text, told_text}
use Rattle.run_view.specs.declared.seen.Seen.{Seen}

-- ---- interfaces

-- the interface of a source, from 0: changes have none, and count as the underlay here
abbrev pub interface_of : ℕ → Source → ℕ
interface_of ports (sources.Tap (taps.Port port)) = port - 1
interface_of ports (sources.Tap taps.Underlay) = ports
interface_of ports sources.Changes = ports

-- where a frame leaves
abbrev pub interface_at : ℕ → Place → ℕ
interface_at ports (Local port) = port - 1
interface_at ports (Remote kind addr) = ports

-- ---- events

-- how many octets a frame had
abbrev pub original_of : Happening → ℕ
original_of (happenings.Change index) = 0
original_of (happenings.Record tap captured) = captured.original

-- those that were captured
abbrev pub octets_of : Happening → List ℕ
octets_of (happenings.Change index) = []
octets_of (happenings.Record tap captured) = captured.octets

-- what is kept of the event of this number, in a run with these changes, until it is answered: of its octets no more than a
-- record has at most
abbrev pub seen_of : ℕ → List TimedChange → ℕ → Event → Seen
seen_of ports changes number e = record {
  origin = origin_of number e;
  named = named_in changes e;
  interface = interface_of ports (origin_of number e).source;
  original = original_of e.happening;
  octets = take longest (octets_of e.happening);
}

-- what came: at the moment of the event
abbrev pub came_item : Seen → List ℕ → Item
came_item seen text = Shown
    (record { interface = seen.interface; moment = seen.origin.moment; original = seen.original; octets = seen.octets })
    (record { comment = comment_of text; direction = inbound; event = seen.origin.event })

-- what was put together for what leaves, or why nothing does
abbrev pub gathered : List ℕ → Result (Unit {0}) Reason → Result (List ℕ) Reason
gathered octets (Ok done) = Ok octets
gathered octets (Err reason) = Err reason

-- what left at a place, if something did
abbrev pub left_by : ℕ → Seen → Bool → Sent → Result (List ℕ) Reason → List Item
left_by ports seen two_tunnels o (Err reason) = []
left_by ports seen two_tunnels o (Ok octets) = Shown
    (record { interface = interface_at ports o.place; moment = seen.origin.moment; original = length octets; octets = octets })
    (record { comment = comment_of (left_text seen.origin.event two_tunnels o); direction = outbound; event = seen.origin.event })
    ∷ []

-- the same of an outlet
abbrev pub left_items : ℕ → Seen → Bool → Sent → List Item
left_items ports seen two_tunnels o = left_by ports seen two_tunnels o o.sent

-- all that is told of an event
abbrev pub items_of : ℕ → Seen → Answer → List Item
items_of ports seen (Decided d) =
    came_item seen (told_text seen.origin seen.named (Decided d)) ∷ flat_map (left_items ports seen d.two_tunnels) d.outcomes
items_of ports seen (Replied fault) =
    Noted seen.origin.moment (comment_of (told_text seen.origin seen.named (Replied fault))) ∷ []

-- ---- behind the last event

-- the line of a capture that is cut, at a moment
abbrev pub cut_item : ℕ → Cut → Item
cut_item moment cut = Noted moment (comment_of (cut_text cut))
