-- Which texts can be names of events. It states no standard.
use Rattle.std.specs.Prelude.{ℕ, nat_le, ◌&&◌, ◌||◌, Bool, true, false, is_some, List, Option, Some, None}
use Rattle.timeline.specs.declared.source.Source.{Source}
use Rattle.timeline.specs.declared.source.Source.TheVariants.{Changes, Tap}
use Rattle.timeline.specs.declared.source.Tap.TheVariants.{Port, Underlay}
use Rattle.run_reports.specs.Reading.{name_in}
use Rattle.run_reports.specs.Sought.{address_in, reasons_in}
use Rattle.run_reports.specs.declared.wanted.Reasons.{Reasons}
use Rattle.run_reports.specs.declared.wanted.Reasons.TheVariants.{No, One, Every}
use Rattle.run_reports.specs.declared.reading.Name.{Name}

-- a run has such a source: ports 1 to 255, the underlay, the changes; or none is named
abbrev pub can_come_from : Option Source → Bool
can_come_from None = true
can_come_from (Some Changes) = true
can_come_from (Some (Tap Underlay)) = true
can_come_from (Some (Tap (Port port))) = nat_le 1 port && nat_le port 255

-- an event can have the name: numbers are from 1
abbrev pub can_name : Option Name → Bool
can_name None = false
can_name (Some name) = nat_le 1 name.number && can_come_from name.source

-- a reason is asked for
abbrev pub is_any : Reasons → Bool
is_any No = false
is_any (One n) = true
is_any Every = true

-- a text can be the name of an event, or asks for the first of a kind
abbrev pub is_event_name : List ℕ → Bool
is_event_name text = can_name (name_in text) || (is_any (reasons_in text) || is_some (address_in text))
