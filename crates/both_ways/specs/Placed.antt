-- Where a run put frames, held against the echoes that are met. It states no standard.
use Rattle.std.specs.Prelude.{ℕ, nat_eq, nat_lt, ◌&&◌, not, Bool, false, true, if◌then◌else◌, List, [], ◌∷◌, ◌++◌, drop, get_or, length, replicate, set}
use Rattle.std.specs.List.{list_all, list_any}
use Rattle.both_ways.specs.Sieve.{counted, place_in}
use Rattle.both_ways.specs.Told.{no_places}
use Rattle.both_ways.specs.declared.left_out.Cause.{Cause}
use Rattle.both_ways.specs.declared.left_out.Cause.TheVariants.{Echo, Sent}
use Rattle.both_ways.specs.declared.left_out.LeftOut.{LeftOut}
use Rattle.both_ways.specs.declared.placed.Put.{Put}
use Rattle.echo_window.specs.declared.origin.Origin.{Origin}
use Rattle.filter_db.specs.declared.place.Place.{Place}
use Rattle.filter_db.specs.declared.place.Place.TheVariants.{Local, Remote}
use Rattle.timeline.specs.declared.event.Event.{Event}

-- where a run put the latest frames that it put at ports, the earliest first; and by the numbers of places how many echoes were
-- met there whose frames it didn't put there
pub record Placements : Type 0 where
  pub puts : List Put
  pub counts : List ℕ

abbrev pub no_puts : Placements
no_puts = record { puts = []; counts = replicate 256 0 }

-- ---- a frame is put

-- a set of places with the local ports among some
abbrev pub with_ports : List Bool → List Place → List Bool
with_ports set_of [] = set_of
with_ports set_of (Local port ∷ ps) = with_ports (set set_of port true) ps
with_ports set_of (Remote tunnel addr ∷ ps) = with_ports set_of ps

abbrev pub ports_in : List Place → List Bool
ports_in places = with_ports no_places places

-- at most 4,095 frames, which are the latest
abbrev pub with_room : List Put → List Put
with_room puts = if nat_lt (length puts) 4096 then puts else drop 1 puts

abbrev pub with_put : List Put → Put → List Put
with_put puts put = puts ++ put ∷ []

-- the frame of an event is put at these places: one that is put at no port isn't kept
abbrev pub put_behind : Placements → Event → List Place → Placements
put_behind k e places =
    if list_all not (ports_in places) then k
    else record k { puts = with_put (with_room k.puts) (record { place = place_in e.happening; number = e.number; ports = ports_in places }) }

-- ---- an echo is met

-- a frame is that which this record brought, and was put at a place
abbrev pub is_put_by : Origin → ℕ → Put → Bool
is_put_by o place p = nat_eq p.place o.place && (nat_eq p.number o.number && get_or p.ports place false)

-- one more is counted at the place of an echo, where the run didn't put its frame
abbrev pub echo_met : Placements → Origin → ℕ → Placements
echo_met k o place = record { puts = k.puts; counts = if list_any (is_put_by o place) k.puts then k.counts else counted k.counts place }

-- a record that isn't input is met
abbrev pub met_for : Placements → ℕ → Cause → Placements
met_for k place (Echo o) = echo_met k o place
met_for k place Sent = k

abbrev pub met : Placements → LeftOut → Placements
met k l = met_for k l.place l.cause
