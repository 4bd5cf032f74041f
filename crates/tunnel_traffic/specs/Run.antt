-- What passes by the tunnels in a whole run. It states no standard.
use Rattle.std.specs.Prelude.{◌≡◌, List, [], ◌++◌, Option, Some, None}
use Rattle.std.specs.List.{FoldsTo, flat_map}
use Rattle.overlay.specs.declared.settings.change.Change.{Change}
use Rattle.timeline.specs.declared.event.Event.{Event}
use Rattle.endpoint_core.specs.Settings.{Settings}
use Rattle.endpoint_core.specs.Step.{Answer, opened}
use Rattle.segment_set.specs.Segments.{Segments}
use Rattle.stream_run.specs.Sights.{Sight, sights}
use Rattle.tunnel_traffic.specs.TrafficRows.{TrafficRow, all_traffic, shown}
use Rattle.tunnel_traffic.specs.Tunnels.{Sees, Tunnels, answer_rows, no_tunnels, remotes_of, unknown_of}

-- nothing of an event that isn't told
abbrev pub where_told : Option Answer → List TrafficRow → List TrafficRow
where_told (Some a) rows = rows
where_told None rows = []

-- what is sent of it
abbrev pub reply_rows : Option Answer → List TrafficRow
reply_rows (Some a) = answer_rows a
reply_rows None = []

-- the packets of networks that no segment has, of what was seen
abbrev pub unknown_in : Sight → List TrafficRow
unknown_in s = where_told s.reply (unknown_of s.state.bridges.settings.overlay s.event.happening)

-- those of remote endpoints
abbrev pub remotes_in : Sight → List TrafficRow
remotes_in s = where_told s.reply (remotes_of s.state.bridges.settings.overlay s.event.happening) ++ reply_rows s.reply

-- of many events: the first 4,096 rows, and the others
abbrev pub tunnels_of : List Sight → Tunnels
tunnels_of seen = record {
  unknown = shown 4096 (all_traffic [] (flat_map unknown_in seen));
  remotes = shown 4096 (all_traffic [] (flat_map remotes_in seen));
}

-- whoever counts looked on from the begin of a run of these segments to its end
pub record IsCounted (segments : Segments) (S : Settings) (cs : List Change) (es : List Event) (begun ended : Tunnels) : Type 0 where
  pub none : begun ≡ no_tunnels
  pub seen : FoldsTo Sees begun (sights segments cs (opened S) 0 es) ended

-- behind such a run, of any events, the tables show what those events and their answers come to
abbrev pub CountsRuns : Type 0
CountsRuns =
    (segments : Segments) (S : Settings) (cs : List Change) (es : List Event) (begun ended : Tunnels)
    → IsCounted segments S cs es begun ended
    → ended ≡ tunnels_of (sights segments cs (opened S) 0 es)
