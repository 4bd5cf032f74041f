-- How a frame comes to the bridge of a segment: by a local port or by a tunnel. It states no standard.
use Rattle.std.specs.Prelude.{ℕ, nat_lt, Bool, ◌&&◌, if◌then◌else◌, List, [], ◌∷◌, length, Result, Ok, Err}
use Rattle.std.specs.Option.{option_map_or}
use Rattle.wire.specs.First.{first, unless}
use Rattle.wire.specs.Frame.{Frame}
use Rattle.wire.specs.Tag.{begins_tag}
use Rattle.wire.specs.declared.ether.reason.Reason.{Reason}
use Rattle.wire.specs.declared.ether.reason.Reason.TheVariants.{TooLong, Sliced, InnerTag}
use Rattle.wire.specs.declared.ether.reason.Refused.{Refused}
use Rattle.filter_db.specs.declared.place.Place.{Place}
use Rattle.filter_db.specs.declared.place.Place.TheVariants.{Local, Remote}
use Rattle.overlay.specs.Ingress.{enters, nowhere, within}
use Rattle.overlay.specs.Ports.{Ports, egress_at}
use Rattle.overlay.specs.Overlay.{Overlay, refuses_tags_at}
use Rattle.decapsulate.specs.Arrival.{arrival_of}
use Rattle.decapsulate.specs.declared.arrived.Arrived.{Arrived}
use Rattle.encapsulate.specs.Emission.{Parts, no_parts, local_text, local_parts}
use Rattle.encapsulate.specs.Remote.{sending, sending_parts}

-- a frame in a segment, and the place that it came from
pub record Arrival : Type 0 where
  pub vid : ℕ
  pub from : Place
  pub frame : Frame

-- ---- by a local port

-- a record of a capture that is longer than a frame, or that is a part of one of this original length
abbrev pub capture_reasons : ℕ → List ℕ → List (Refused × Bool)
capture_reasons original b =
    (nowhere TooLong, nat_lt 65535 (length b))
    ∷ (nowhere Sliced, nat_lt (length b) original)
    ∷ []

-- a frame in a segment, from a local port
abbrev pub entered : ℕ → Result (ℕ × Frame) Refused → Result Arrival Refused
entered port (Ok found) = Ok (record { vid = found.0; from = Local port; frame = found.1 })
entered port (Err refused) = Err refused

-- of those, one whose body begins with a tag is refused in its segment where that takes none of them
abbrev pub let_in : Overlay → Result Arrival Refused → Result Arrival Refused
let_in overlay (Ok x) =
    if begins_tag x.frame.body && refuses_tags_at overlay x.vid then Err (within x.vid InnerTag) else Ok x
let_in overlay (Err refused) = Err refused

-- the frame that the octets at a port are, in its segment; or the first reason why it comes to none
unfoldable pub came_at : Ports → Overlay → ℕ → ℕ → List ℕ → Result Arrival Refused
came_at ports overlay port original b =
    unless (first (capture_reasons original b)) (let_in overlay (entered port (enters ports port b)))

-- ---- by a tunnel

-- a frame in a segment, from a remote endpoint
abbrev pub tunnelled : Result Arrived Refused → Result Arrival Refused
tunnelled (Ok x) = Ok (record { vid = x.vid; from = Remote x.from.0 x.from.1; frame = x.frame })
tunnelled (Err refused) = Err refused

-- the frame that an outer packet brings, in its segment; or the first reason why it brings none
unfoldable pub came_by : Overlay → ℕ → List ℕ → Result Arrival Refused
came_by overlay original b = tunnelled (arrival_of overlay original b)

-- ---- and how it leaves

-- the octets of a frame of a segment at a local port; nothing where the port is no member
abbrev pub local_octets : Ports → ℕ → Frame → ℕ → List ℕ
local_octets ports vid f port = option_map_or (λ egress. local_text vid egress f) (egress_at ports vid port) []

-- the octets of a frame of a segment at an outlet, or why none are sent there
unfoldable pub emitted : Ports → Overlay → ℕ → Frame → Place → Result (List ℕ) Reason
emitted ports overlay vid f (Local port) = Ok (local_octets ports vid f port)
emitted ports overlay vid f (Remote kind addr) = sending overlay vid kind addr f

-- ---- in parts

-- that frame at a local port
abbrev pub local_emission : Ports → ℕ → Frame → ℕ → Parts
local_emission ports vid f port = option_map_or (λ egress. local_parts vid egress f) (egress_at ports vid port) no_parts

-- the frame at an outlet, or why nothing is sent there
unfoldable pub emitted_parts : Ports → Overlay → ℕ → Frame → Place → Result Parts Reason
emitted_parts ports overlay vid f (Local port) = Ok (local_emission ports vid f port)
emitted_parts ports overlay vid f (Remote kind addr) = sending_parts overlay vid kind addr f
