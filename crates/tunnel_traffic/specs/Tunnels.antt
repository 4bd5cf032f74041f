-- What passes by the tunnels of an endpoint. It states no standard. Octets are those of whole packets, as they were captured or
-- sent at the underlay.
--     unknown_of, remotes_of      what an event counts as, before its answer
--     left_of      what its answer does
--     Tunnels      what was counted
--     Expects, Hears, Sees      an event more, an answer more, both
use Rattle.std.specs.Prelude.{◌≡◌, ℕ, ◌==◌, Bool, if◌then◌else◌, List, [], ◌∷◌, length, Option, Some, None, Result, Ok, Err}
use Rattle.std.specs.List.{flat_map}
use Rattle.wire.specs.Reason.{number_of}
use Rattle.wire.specs.declared.ether.reason.Reason.{Reason}
use Rattle.wire.specs.declared.ether.reason.Reason.TheVariants.{UnknownVni}
use Rattle.wire.specs.declared.ether.reason.Refused.{Refused}
use Rattle.filter_db.specs.declared.place.Place.{Place}
use Rattle.filter_db.specs.declared.place.Place.TheVariants.{Local, Remote}
use Rattle.overlay.specs.Overlay.{Overlay}
use Rattle.timeline.specs.declared.event.Happening.{Happening}
use Rattle.timeline.specs.declared.event.Happening.TheVariants as happenings
use Rattle.timeline.specs.declared.source.Tap.TheVariants.{Port, Underlay}
use Rattle.endpoint_core.specs.Arrival.{came_by}
use Rattle.endpoint_core.specs.Arrival.{Arrival}
use Rattle.endpoint_core.specs.Decision.{Sent}
use Rattle.endpoint_core.specs.Step.{Answer, Decided, Replied}
use Rattle.stream_run.specs.Sights.{Due, Sight}
use Rattle.tunnel_traffic.specs.TrafficRows.{TrafficRow, counted_all, row_of}
use Rattle.tunnel_traffic.specs.Traffic.{came_of, left_of}
use Rattle.tunnel_traffic.specs.declared.rows.key.TunnelKey.{TunnelKey}
use Rattle.tunnel_traffic.specs.declared.rows.traffic.Traffic.{Traffic}
use Rattle.tunnel_traffic.specs.Header.{key_in}
pub use Rattle.tunnel_traffic.specs.Tables.{Tunnels, no_tunnels, endpoint_key}

-- ---- rows

-- traffic of a place, where that is a remote endpoint
abbrev pub rows_at : Place → Traffic → List TrafficRow
rows_at (Local port) traffic = []
rows_at (Remote kind addr) traffic = row_of (endpoint_key kind addr) traffic ∷ []

-- ---- what comes

-- no segment has the network
abbrev pub is_unknown : Reason → Bool
is_unknown reason = number_of reason == number_of UnknownVni

-- traffic of a network and a sender, where there is one
abbrev pub key_rows : Option TunnelKey → Traffic → List TrafficRow
key_rows None traffic = []
key_rows (Some key) traffic = row_of key traffic ∷ []

-- a packet that was refused for a reason: no line tells its octets, and none are counted
abbrev pub refused_rows : Overlay → List ℕ → Reason → List TrafficRow
refused_rows overlay b reason = if is_unknown reason then key_rows (key_in overlay.underlay b) (came_of 0) else []

-- a packet of a network that no segment has
abbrev pub unknown_by : Overlay → List ℕ → Result Arrival Refused → List TrafficRow
unknown_by overlay b (Ok x) = []
unknown_by overlay b (Err refused) = refused_rows overlay b refused.reason

-- a packet that brings a frame to a segment
abbrev pub remotes_by : List ℕ → Result Arrival Refused → List TrafficRow
remotes_by b (Ok x) = rows_at x.from (came_of (length b))
remotes_by b (Err refused) = []

-- the first of these, of what happens
abbrev pub unknown_of : Overlay → Happening → List TrafficRow
unknown_of overlay (happenings.Change index) = []
unknown_of overlay (happenings.Record (Port port) captured) = []
unknown_of overlay (happenings.Record Underlay captured) =
    unknown_by overlay captured.octets (came_by overlay captured.original captured.octets)

-- and the second
abbrev pub remotes_of : Overlay → Happening → List TrafficRow
remotes_of overlay (happenings.Change index) = []
remotes_of overlay (happenings.Record (Port port) captured) = []
remotes_of overlay (happenings.Record Underlay captured) = remotes_by captured.octets (came_by overlay captured.original captured.octets)

-- ---- what leaves

-- what was sent to a remote endpoint
abbrev pub sent_rows : Place → Result (List ℕ) Reason → List TrafficRow
sent_rows place (Ok octets) = rows_at place (left_of (length octets))
sent_rows place (Err reason) = []

-- of an outcome
abbrev pub outcome_rows : Sent → List TrafficRow
outcome_rows o = sent_rows o.place o.sent

-- of an answer
abbrev pub answer_rows : Answer → List TrafficRow
answer_rows (Decided decision) = flat_map outcome_rows decision.outcomes
answer_rows (Replied fault) = []

-- ---- what was counted

-- with a packet that brings this
abbrev pub packet_told : Tunnels → Overlay → List ℕ → Result Arrival Refused → Tunnels
packet_told t overlay b came = record {
  unknown = counted_all t.unknown (unknown_by overlay b came);
  remotes = counted_all t.remotes (remotes_by b came);
}

-- with what an event is before its answer
abbrev pub came_told : Tunnels → Overlay → Happening → Tunnels
came_told t overlay happening = record {
  unknown = counted_all t.unknown (unknown_of overlay happening);
  remotes = counted_all t.remotes (remotes_of overlay happening);
}

-- with an answer
abbrev pub answer_told : Tunnels → Answer → Tunnels
answer_told t a = record { unknown = t.unknown; remotes = counted_all t.remotes (answer_rows a) }

-- ---- steps

-- an event more came
abbrev pub Expects : Tunnels → Due → Tunnels → Type 0
Expects old d new = new ≡ came_told old d.state.bridges.settings.overlay d.event.happening

-- an event more came and was answered; one that isn't told counts for nothing
abbrev pub SeesReply : Tunnels → Due → Option Answer → Tunnels → Type 0
SeesReply old d (Some a) new = new ≡ answer_told (came_told old d.state.bridges.settings.overlay d.event.happening) a
SeesReply old d None new = new ≡ old

-- the same of what was seen
abbrev pub Sees : Tunnels → Sight → Tunnels → Type 0
Sees old s new = SeesReply old (record { state = s.state; number = s.number; event = s.event }) s.reply new
