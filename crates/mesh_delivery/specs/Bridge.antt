-- The bridge of one segment as one value, and what it does with a frame (IEEE 802.1Q, 8.6 to 8.8): a function of this value, of
-- the moment, of the place that the frame comes from, and of the frame. No other segment's table or settings are there to be
-- asked.
--     Bridge      the segment's own settings and its own table, which ports are up, and the largest frames
--     aged      the filtering database at a moment (8.8.3)
--     learned      the learning process (8.7)
--     unsent      why a frame isn't sent at an outlet
--     leaving      the forwarding process (8.6)
--     step      all that the bridge does with a frame
use Rattle.std.specs.Prelude.{ℕ, ◌&&◌, nat_lt, Bool, if◌then◌else◌, List, [], ◌∷◌, map, Option, None, Result, Ok, Err}
use Rattle.wire.specs.First.{first}
use Rattle.wire.specs.Frame.{Frame, size}
use Rattle.wire.specs.Tag.{begins_tag}
use Rattle.wire.specs.declared.ether.reason.Reason.{Reason}
use Rattle.wire.specs.declared.ether.reason.Reason.TheVariants.{TooBig, InnerTagOut}
use Rattle.wire.specs.declared.ip_udp.addr.Addr.{Addr}
use Rattle.wire.specs.declared.ip_udp.addr.Addr.TheVariants.{V4, V6}
use Rattle.filter_db.specs.declared.place.Place.{Place}
use Rattle.filter_db.specs.declared.place.Place.TheVariants.{Local, Remote}
use Rattle.filter_db.specs.Table.{Table, nanoseconds, live, learn}
use Rattle.tunnel_learning.specs.Bridge.{Config, outlets}

-- the bridge of one segment
pub record Bridge : Type 0 where
  -- which ports are up, how its frames leave at its member ports, whether it learns, where it floods, its horizon groups
  pub config : Config
  -- the most entries of its table
  pub limit : ℕ
  -- for how many seconds a learned entry is live
  pub ageing : ℕ
  -- the octets of the largest frame, without a tag, that is sent to a remote endpoint over IPv4
  pub largest4 : ℕ
  -- and over IPv6
  pub largest6 : ℕ
  -- no frame that begins with a tag is sent to a remote endpoint (RFC 7348, 6.1)
  pub drops_tags : Bool
  -- the segment's own
  pub table : Table

-- ---- learning

-- what is dead at moment t is gone (802.1Q, 8.8.3)
abbrev pub aged : ℕ → Bridge → Bridge
aged t b = record b { table = live (nanoseconds b.ageing) t b.table }

-- the source of a frame stands at the place that it comes from, where the bridge learns (802.1Q, 8.7)
abbrev pub learned : ℕ → Place → Frame → Bridge → Bridge
learned t from f b = record b { table = if b.config.learning then learn b.limit t from f.src b.table else b.table }

-- ---- forwarding

-- the octets of the largest frame that is sent to an address
abbrev pub largest_to : Bridge → Addr → ℕ
largest_to b (V4 a) = b.largest4
largest_to b (V6 a) = b.largest6

-- why a frame isn't sent at an outlet, in the order of the checks; None where it is. At a local port it always is
abbrev pub unsent : Bridge → Frame → Place → Option Reason
unsent b f (Local port) = None
unsent b f (Remote kind a) =
    first ((TooBig, nat_lt (largest_to b a) (size f)) ∷ (InnerTagOut, begins_tag f.body && b.drops_tags) ∷ [])

-- a place where a frame leaves, or would: there it is sent, or it isn't for this reason
pub record Outlet : Type 0 where
  pub place : Place
  pub unsent : Option Reason

-- a place as an outlet of a frame
abbrev pub outlet_at : Bridge → Frame → Place → Outlet
outlet_at b f place = record { place = place; unsent = unsent b f place }

-- the same of many, or why there are none
abbrev pub outlets_at : Bridge → Frame → Result (List Place) Reason → Result (List Outlet) Reason
outlets_at b f (Ok places) = Ok (map (outlet_at b f) places)
outlets_at b f (Err reason) = Err reason

-- where a frame goes that comes from a place, or why it goes nowhere (802.1Q, 8.6)
abbrev pub leaving : Bridge → Place → Frame → Result (List Outlet) Reason
leaving b from f = outlets_at b f (outlets b.config from f b.table)

-- ---- a frame

-- what has died is gone, the source is learned, and then the frame is forwarded: its outlets, or why there are none, and the
-- bridge after it
abbrev pub step : Bridge → ℕ → Place → Frame → Result (List Outlet) Reason × Bridge
step b t from f = let now : Bridge = learned t from f (aged t b) in (leaving now from f, now)
