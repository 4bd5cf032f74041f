-- Two runs over captures, with two settings texts, and what of them is one segment's own. It states no standard.
--     rules_of, TellAlike      settings that tell the same of a segment
--     own_coming      what of a source is the segment's own in that run
--     replies_of      what its own changes that need room are answered in that run
--     as_changed      the changes of a run, each at its moment
use Rattle.std.specs.Prelude.{◌≡◌, ℕ, ◌==◌, true, List, map, filter, Option}
use Rattle.timeline.specs.Timeline.{Timeline}
use Rattle.timeline.specs.declared.source.Source.{Source}
use Rattle.overlay.specs.Settings.{Settings as Told}
use Rattle.overlay.specs.declared.settings.segment.SegmentRule.{SegmentRule}
use Rattle.overlay.specs.declared.settings.change.TimedChange.{TimedChange}
use Rattle.endpoint_core.specs.Opened.{settings_told}
use Rattle.endpoint_core.specs.declared.state.fault.ChangeFault.{ChangeFault}
use Rattle.endpoint_core.specs.Event.{Event, change_at}
use Rattle.noninterference.specs.Coming.{Inputs, coming, from_source}
use Rattle.tenants_apart.specs.Own.{Needs, shared_of, port_there, own_events, room_replies}

-- the rules of the segment of a VID, in order. A text has one, or none
abbrev pub rules_of : ℕ → Told → List SegmentRule
rules_of vid s = filter (λ rule. vid == rule.vid) s.segments

-- of the underlay and the ports the same of what the segment of this VID goes by, and of that segment the same: that it isn't
-- there, or its tunnels with their VNIs, flood list, members, limit, ageing and all else that its rule has. The pool, other
-- ports, next hops and limits, and all other segments may differ
pub record TellAlike (vid : ℕ) (needs : Needs) (s t : Told) : Type 0 where
  pub shared : shared_of needs s.underlay ≡ shared_of needs t.underlay
  pub ports : (port : ℕ) → needs.ports port ≡ true
      → port_there (settings_told s).ports port ≡ port_there (settings_told t).ports port
  pub segment : rules_of vid s ≡ rules_of vid t

-- of a source the changes or the records that are the segment's own in that run, in order
abbrev pub own_coming : ℕ → Needs → Told → Inputs → Timeline → Source → List Event
own_coming vid needs s x timeline source = from_source source (own_events vid needs (settings_told s) (coming x timeline))

-- to each of its own changes that needs room why it is refused in that run, or None where it is made
abbrev pub replies_of : ℕ → Told → Inputs → Timeline → List (Option ChangeFault)
replies_of vid s x timeline = room_replies vid (settings_told s) (coming x timeline)

-- the changes of a run, each at its moment
abbrev pub as_changed : List TimedChange → List Event
as_changed changes = map (λ c. change_at c.at c.change) changes
