-- What leaves at a local port, where it is read at one again: by who stands at that port, or in a second run of the port's
-- capture (IEEE 802.1Q, 6.9, 8.8 and 9.6).
--     IsForwarded      a frame that bridges forward
--     TakesInto      a port takes frames with such a tag, or without one, into a segment
--     as_untagged      a frame as it is read where no tag tells its priority
--     IsBehindTag      a frame, and the one behind the tag that its body begins with
--     IsTagless      its body begins with no tag, where the segment takes none of those
--     IsLocalText      what leaves at a port is the text of a frame
use Rattle.std.specs.Prelude.{◌≡◌, ◌<◌, ◌≤◌, ℕ, true, false, List, ◌++◌, length, Option, Some, IsSome}
use Rattle.wire.specs.Octets.{IsText}
use Rattle.wire.specs.Address.{is_group, is_reserved}
use Rattle.wire.specs.Frame.{Frame, IsFrame}
use Rattle.wire.specs.Tag.{begins_tag, tag_text, tci_of}
use Rattle.filter_db.specs.declared.place.Place.{Place}
use Rattle.filter_db.specs.declared.place.Place.TheVariants.{Local, Remote}
use Rattle.overlay.specs.Ingress.{accepts, segment_vid}
use Rattle.overlay.specs.Ports.{Ports, port_at, is_up, egress_at}
use Rattle.overlay.specs.declared.ports.member.Egress.{Egress}
use Rattle.overlay.specs.Overlay.{Overlay, refuses_tags_at}
use Rattle.encapsulate.specs.Emission.{local_text}
use Rattle.endpoint_core.specs.Settings.{Settings}
use Rattle.endpoint_core.specs.Event.{Input, FrameAt, Packet, Asks}

-- a frame with an individual source, to an address that bridges forward
pub record IsForwarded (f : Frame) : Type 0 where
  pub is_frame : IsFrame f
  pub source_is_individual : is_group f.src ≡ false
  pub destination_is_forwarded : is_reserved f.dst ≡ false

-- frames with the VID w in their tag, where w is 0 those with no VID or no tag, are taken at the port into the segment v:
-- it is up, it accepts such frames, v is w, or the port's VID where w is 0, and the port is a member of v
pub record TakesInto (s : Ports) (port : ℕ) (w : ℕ) (v : ℕ) : Type 0 where
  pub up : is_up s port ≡ true
  pub accepted : accepts (port_at s port).accept w ≡ true
  pub segment : v ≡ segment_vid (port_at s port).pvid w
  pub member : IsSome (egress_at s v port)

-- a frame as it is read where no tag tells its priority
abbrev pub as_untagged : Frame → Frame
as_untagged f = record f { pcp = 0; dei = false }

-- the body of f begins with a whole tag of the VID w, and g is the frame behind it: of the same addresses, with what that
-- tag says of priority, and with what stands behind the tag for its body
pub record IsBehindTag (f : Frame) (w : ℕ) (g : Frame) : Type 0 where
  pub vid : w < 4096
  pub pcp : g.pcp < 8
  pub dst : g.dst ≡ f.dst
  pub src : g.src ≡ f.src
  pub body : f.body ≡ tag_text (tci_of g.pcp g.dei w) ++ g.body
  pub long : 2 ≤ length g.body

-- where the segment v takes no frame whose body begins with a tag, this one begins with none
abbrev pub IsTagless : Overlay → ℕ → Frame → Type 0
IsTagless o v f = refuses_tags_at o v ≡ true → begins_tag f.body ≡ false

-- ---- what a run sends

-- what comes in is octets
abbrev pub IsTextIn : Input → Type 0
IsTextIn (FrameAt port original b) = IsText b
IsTextIn (Packet original b) = IsText b
IsTextIn (Asks c) = Unit {0}

-- these octets, which leave at a port in a segment, are a frame that bridges forward, as it leaves there by how the port is
-- a member; and it begins with no tag where the segment takes none of those
pub record IsLocalText (S : Settings) (segment : Option ℕ) (port : ℕ) (octets : List ℕ) : Type 0 where
  pub vid : ℕ
  pub egress : Egress
  pub frame : Frame
  pub segment_is : segment ≡ Some vid
  pub member : egress_at S.ports vid port ≡ Some egress
  pub forwarded : IsForwarded frame
  pub tagless : IsTagless S.overlay vid frame
  pub octets_are : octets ≡ local_text vid egress frame

-- so it is with what leaves at a local port; nothing is said of packets
abbrev pub LeavesAsText : Settings → Option ℕ → Place → List ℕ → Type 0
LeavesAsText S segment (Local port) octets = IsLocalText S segment port octets
LeavesAsText S segment (Remote kind addr) octets = Unit {0}
