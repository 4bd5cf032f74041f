-- A mesh of endpoints whose tunnels lead to one another (RFC 7348, 4; RFC 8926, 2). Each acts as an endpoint does: by its
-- `answer` to an event, and its state `after` it.
--     Mesh      the endpoints, the packets on their way, and the frames that left by local ports
--     Happening      a local frame, a change, or the delivery of a packet to the endpoint that owns its destination
--     mesh_after, mesh_run      the mesh after one of them, and after many
use Rattle.std.specs.Prelude.{ℕ, ◌+◌, ◌==◌, if◌then◌else◌, List, [], ◌∷◌, ◌++◌, length, slice_get, Option, Some, None, Result, Ok, Err}
use Rattle.std.specs.List.{flat_map, remove}
use Rattle.wire.specs.Frame.{Frame}
use Rattle.wire.specs.declared.ether.reason.Reason.{Reason}
use Rattle.wire.specs.declared.ether.reason.Refused.{Refused}
use Rattle.wire.specs.declared.ip_udp.addr.Addr.{Addr}
use Rattle.wire.specs.declared.ip_udp.addr.Tunnel.{Tunnel}
use Rattle.filter_db.specs.declared.place.Place.{Place}
use Rattle.filter_db.specs.declared.place.Place.TheVariants.{Local, Remote}
use Rattle.overlay.specs.UnderlaySettings.{is_own}
use Rattle.overlay.specs.Settings.{Settings as Told}
use Rattle.overlay.specs.declared.settings.change.Change.{Change}
use Rattle.endpoint_core.specs.Opened.{settings_told}
use Rattle.endpoint_core.specs.Settings.{Settings}
use Rattle.endpoint_core.specs.Arrival.{Arrival}
use Rattle.endpoint_core.specs.Arrival.{came_at, came_by}
use Rattle.endpoint_core.specs.Decision.{Sent}
use Rattle.endpoint_core.specs.Event.{Event, frame_at, packet_at, change_at}
use Rattle.endpoint_core.specs.Step.{State, Answer, Decided, Replied, opened, answer, after}

-- ---- what moves

-- a frame that came in at a local port of an endpoint and entered a segment there
pub record Origin : Type 0 where
  -- how many local frames came before it, at all endpoints
  pub number : ℕ
  pub endpoint : ℕ
  pub port : ℕ
  pub vid : ℕ
  pub frame : Frame

-- a packet that was sent and not delivered yet
pub record Flying : Type 0 where
  -- the frame that it is offspring of
  pub origin : Origin
  -- the settings in force where it was sent, and the segment
  pub sender : Settings
  pub vid : ℕ
  -- where it is to go
  pub kind : Tunnel
  pub addr : Addr
  pub octets : List ℕ

-- a frame that left by a local port of an endpoint
pub record Left : Type 0 where
  -- the frame that it is offspring of
  pub origin : Origin
  pub endpoint : ℕ
  -- the settings in force there, and the segment
  pub settings : Settings
  pub vid : ℕ
  pub port : ℕ
  -- the packet that brought it; None where it left at the endpoint that its origin came in at
  pub by : Option Flying
  pub octets : List ℕ

-- the endpoints, the packets on their way, and what left at local ports
pub record Mesh : Type 0 where
  -- by their numbers
  pub endpoints : ℕ → State
  pub flying : List Flying
  pub left : List Left
  -- how many local frames came
  pub frames : ℕ

-- the settings in force at an endpoint
abbrev pub settings_at : Mesh → ℕ → Settings
settings_at m endpoint = (m.endpoints endpoint).bridges.settings

-- ---- what an endpoint sends

-- what came of each outlet
abbrev pub outcomes_of : Answer → List Sent
outcomes_of (Decided decision) = decision.outcomes
outcomes_of (Replied fault) = []

-- the frame that leaves at a place, if it is a local port
abbrev pub left_one : Origin → ℕ → Settings → ℕ → Option Flying → Place → Result (List ℕ) Reason → List Left
left_one origin endpoint S vid by (Local port) (Ok octets) =
    record { origin = origin; endpoint = endpoint; settings = S; vid = vid; port = port; by = by; octets = octets } ∷ []
left_one origin endpoint S vid by _ _ = []

-- what left at local ports, of all that was sent
abbrev pub left_of : Origin → ℕ → Settings → ℕ → Option Flying → List Sent → List Left
left_of origin endpoint S vid by sent = flat_map (λ o. left_one origin endpoint S vid by o.place o.sent) sent

-- the packet that is sent to a place, if it is a remote endpoint
abbrev pub flying_one : Origin → Settings → ℕ → Place → Result (List ℕ) Reason → List Flying
flying_one origin S vid (Remote kind addr) (Ok octets) =
    record { origin = origin; sender = S; vid = vid; kind = kind; addr = addr; octets = octets } ∷ []
flying_one origin S vid _ _ = []

-- the packets that go on their way, of all that was sent
abbrev pub flying_of : Origin → Settings → ℕ → List Sent → List Flying
flying_of origin S vid sent = flat_map (λ o. flying_one origin S vid o.place o.sent) sent

-- ---- what happens

-- one thing that happens at one endpoint
pub data Happening : Type 0 where
  -- at an endpoint and a moment, a frame at a local port, with its original length
  Comes : (endpoint t port original : ℕ) (octets : List ℕ) → Happening
  -- at an endpoint and a moment
  Changes : (endpoint t : ℕ) (change : Change) → Happening
  -- to an endpoint at a moment, the packet at this place among those on their way, whole
  Delivers : (endpoint t place : ℕ) → Happening

-- the endpoints, one of them after an event
abbrev pub with_event : Mesh → ℕ → Event → ℕ → State
with_event m endpoint e k = if k == endpoint then after (m.endpoints endpoint) e else m.endpoints k

-- after a local frame that entered a segment, or none
abbrev pub after_local : Mesh → ℕ → ℕ → Event → Result Arrival Refused → Mesh
after_local m endpoint port e (Ok x) =
    let S = settings_at m endpoint in
    let origin : Origin = record { number = m.frames; endpoint = endpoint; port = port; vid = x.vid; frame = x.frame } in
    let sent = outcomes_of (answer (m.endpoints endpoint) e) in
    record {
      endpoints = with_event m endpoint e;
      flying = flying_of origin S x.vid sent ++ m.flying;
      left = left_of origin endpoint S x.vid None sent ++ m.left;
      frames = m.frames + 1;
    }
after_local m endpoint port e (Err refused) =
    record { endpoints = with_event m endpoint e; flying = m.flying; left = m.left; frames = m.frames + 1 }

-- after the delivery of packet y, which brought a frame into a segment, or none; the rest is still on its way
abbrev pub after_delivery : Mesh → ℕ → Event → Flying → List Flying → Result Arrival Refused → Mesh
after_delivery m endpoint e y rest (Ok x) =
    let S = settings_at m endpoint in
    let sent = outcomes_of (answer (m.endpoints endpoint) e) in
    record {
      endpoints = with_event m endpoint e;
      flying = flying_of y.origin S x.vid sent ++ rest;
      left = left_of y.origin endpoint S x.vid (Some y) sent ++ m.left;
      frames = m.frames;
    }
after_delivery m endpoint e y rest (Err refused) =
    record { endpoints = with_event m endpoint e; flying = rest; left = m.left; frames = m.frames }

-- a packet is delivered once, to an endpoint that owns its destination, and to no other
abbrev pub delivered : Mesh → ℕ → ℕ → ℕ → Option Flying → Mesh
delivered m endpoint t place None = m
delivered m endpoint t place (Some y) =
    if is_own (settings_at m endpoint).overlay.underlay y.addr
    then after_delivery m endpoint (packet_at t (length y.octets) y.octets) y
    (remove m.flying place) (came_by (settings_at m endpoint).overlay (length y.octets) y.octets)
    else m

-- the mesh after one thing happened
abbrev pub mesh_after : Mesh → Happening → Mesh
mesh_after m (Comes endpoint t port original octets) =
    after_local m endpoint port (frame_at t port original octets)
    (came_at (settings_at m endpoint).ports (settings_at m endpoint).overlay port original octets)
mesh_after m (Changes endpoint t change) =
    record { endpoints = with_event m endpoint (change_at t change); flying = m.flying; left = m.left; frames = m.frames }
mesh_after m (Delivers endpoint t place) = delivered m endpoint t place (slice_get m.flying place)

-- the mesh after these things happened, one after another
abbrev pub mesh_run : Mesh → List Happening → Mesh
mesh_run m [] = m
mesh_run m (h ∷ hs) = mesh_run (mesh_after m h) hs

-- endpoints opened with these settings
abbrev pub new_mesh : (ℕ → Told) → Mesh
new_mesh told = record { endpoints = λ endpoint. opened (settings_told (told endpoint)); flying = []; left = []; frames = 0 }
