-- How a frame enters a segment (IEEE 802.1Q, 6.9: acceptable frame types and the VID of a frame; 8.6.2: ingress
-- filtering; 8.6.3: reserved addresses).
--     IsEntering      a text as a frame with a tag or without
--     reasons      why a frame enters none, in the order of the checks
--     enters      the segment and the frame, or the first of the reasons
--     Enters, Holds, IsRefused      the same as facts
use Rattle.std.specs.Prelude.{◌≡◌, ◌<◌, ◌≤◌, ◌⊎◌, ◌↔◌, ℕ, Bool, true, false, not, ◌==◌, ◌&&◌, nat_lt, if◌then◌else◌, List}
use Rattle.std.specs.Prelude.{[], ◌∷◌, ◌++◌, length, map, take, Option, Some, None, is_none, IsSome, Result, Ok, Err}
use Rattle.std.specs.List.{AllByRecursion}
use Rattle.overlay.specs.Octets.{IsText, field, part}
use Rattle.wire.specs.First.{unless}
use Rattle.overlay.specs.Frame.{first, Frame, IsFrame, plain, tagged, frame_of, frame_behind_tag}
use Rattle.overlay.specs.Frame.{has_tag, begins_tag, vid_of, is_group, is_reserved}
use Rattle.wire.specs.Reason.{number_of}
use Rattle.wire.specs.declared.ether.reason.Reason.{Reason}
use Rattle.wire.specs.declared.ether.reason.Reason.TheVariants.{Runt, PortDown, BadSource, Reserved, CutTag}
use Rattle.wire.specs.declared.ether.reason.Reason.TheVariants.{BadVid, FrameType, NoSegment, NotMember}
use Rattle.wire.specs.declared.ether.reason.Refused.{Refused}
pub use Rattle.wire.specs.Refusal.{nowhere, within}
use Rattle.overlay.specs.Ports.{Ports, port_at, is_up, has_segment, members_at, egress_at}
use Rattle.overlay.specs.declared.ports.port.Accept.{Accept}
use Rattle.overlay.specs.declared.ports.port.Accept.TheVariants as accept

-- ---- a text as a frame

-- the text b is the frame f, and w the VID in its tag. Either there is no tag: then the body doesn't begin with one,
-- the priority is 0 and so is w. Or there is one
pub record IsEntering (b : List ℕ) (f : Frame) (w : ℕ) : Type 0 where
  pub is_frame : IsFrame f
  pub below : w < 4096
  pub text : ((b ≡ plain f) × (begins_tag f.body ≡ false) × (f.pcp ≡ 0) × (f.dei ≡ false) × (w ≡ 0)) ⊎ (b ≡ tagged f w)

-- its addresses by their places
abbrev pub destination : List ℕ → List ℕ
destination b = take 6 b

-- the second six octets
abbrev pub source : List ℕ → List ℕ
source b = part 6 6 b

-- the type of a tag, and no room for the tag and a body of 2 octets
abbrev pub is_cut : List ℕ → Bool
is_cut b = has_tag b && nat_lt (length b) 18

-- the VID in its tag, 0 where it has none
abbrev pub tag_vid : List ℕ → ℕ
tag_vid b = if has_tag b then vid_of (field 14 2 b) else 0

-- the frame that it is
abbrev pub frame_in : List ℕ → Frame
frame_in b = if has_tag b then frame_behind_tag b else frame_of b

-- ---- the VID of a frame, and who takes it

-- the port's VID where the tag has VID 0, which gives a priority alone, or isn't there; else the tag's
abbrev pub segment_vid : ℕ → ℕ → ℕ
segment_vid pvid w = if w == 0 then pvid else w

-- acceptable frame types: all; those with a VID in their tag; those with none
abbrev pub accepts : Accept → ℕ → Bool
accepts accept.All w = true
accepts accept.Tagged w = not (w == 0)
accepts accept.Untagged w = w == 0

-- the VID of the segment that the text b is for
abbrev pub vid_at : Ports → ℕ → List ℕ → ℕ
vid_at s port b = segment_vid (port_at s port).pvid (tag_vid b)

-- ---- why a frame enters no segment

-- those of the text itself and of the state of the port
abbrev pub text_reasons : Ports → ℕ → List ℕ → List (Refused × Bool)
text_reasons s port b =
    (nowhere Runt, nat_lt (length b) 14)
    ∷ (nowhere PortDown, not (is_up s port))
    ∷ (nowhere BadSource, is_group (source b))
    ∷ (nowhere Reserved, is_reserved (destination b))
    ∷ (nowhere CutTag, is_cut b)
    ∷ []

-- those of the VID w in its tag
abbrev pub vid_reasons : Ports → ℕ → ℕ → List (Refused × Bool)
vid_reasons s port w =
    let vid = segment_vid (port_at s port).pvid w in
    (nowhere BadVid, w == 4095)
    ∷ (nowhere FrameType, not (accepts (port_at s port).accept w))
    ∷ (nowhere NoSegment, not (has_segment s vid))
    ∷ (within vid NotMember, is_none (egress_at s vid port))
    ∷ []

-- all, in the order of the checks
abbrev pub reasons : Ports → ℕ → List ℕ → List (Refused × Bool)
reasons s port b = text_reasons s port b ++ vid_reasons s port (tag_vid b)

-- the segment and the frame, or the first reason that holds
abbrev pub enters : Ports → ℕ → List ℕ → Result (ℕ × Frame) Refused
enters s port b = unless (first (reasons s port b)) (Ok (vid_at s port b, frame_in b))

-- ---- the same as facts

-- the text b enters the segment vid at a port, as the frame f
pub record Enters (s : Ports) (port : ℕ) (b : List ℕ) (vid : ℕ) (f : Frame) : Type 0 where
  -- the VID in its tag
  pub tag : ℕ
  pub text : IsEntering b f tag
  pub up : is_up s port ≡ true
  pub source_is_individual : is_group f.src ≡ false
  pub destination_is_forwarded : is_reserved f.dst ≡ false
  pub tag_is_vid : tag < 4095
  pub accepted : accepts (port_at s port).accept tag ≡ true
  pub vid_is : vid ≡ segment_vid (port_at s port).pvid tag
  pub member : IsSome (egress_at s vid port)

-- each reason by itself
abbrev pub Holds : Ports → ℕ → List ℕ → Reason → Type 0
Holds s port b Runt = length b < 14
Holds s port b PortDown = is_up s port ≡ false
Holds s port b BadSource = is_group (source b) ≡ true
Holds s port b Reserved = is_reserved (destination b) ≡ true
Holds s port b CutTag = (has_tag b ≡ true) × (length b < 18)
Holds s port b BadVid = tag_vid b ≡ 4095
Holds s port b FrameType = accepts (port_at s port).accept (tag_vid b) ≡ false
Holds s port b NoSegment = members_at s (vid_at s port b) ≡ None
Holds s port b NotMember = egress_at s (vid_at s port b) port ≡ None
Holds s port b _ = ⊥

-- all of them, in the order of the checks
abbrev pub local_reasons : List Reason
local_reasons = Runt ∷ PortDown ∷ BadSource ∷ Reserved ∷ CutTag ∷ BadVid ∷ FrameType ∷ NoSegment ∷ NotMember ∷ []

-- from NotMember on the segment is known
abbrev pub refused_in : ℕ → Reason → Option ℕ
refused_in vid NotMember = Some vid
refused_in vid _ = None

-- the reason holds, and none does that is checked before it
pub record IsRefused (s : Ports) (port : ℕ) (b : List ℕ) (refused : Refused) : Type 0 where
  pub before : List Reason
  pub behind : List Reason
  pub in_order : local_reasons ≡ before ++ refused.reason ∷ behind
  pub none_before : AllByRecursion (λ reason. Holds s port b reason → ⊥) before
  pub holds : Holds s port b refused.reason
  pub segment_is : refused.segment ≡ refused_in (vid_at s port b) refused.reason

-- ---- laws

-- a text is that of a frame exactly where it has 14 octets, and 18 with a tag; and of that one only
abbrev pub ReadsWhereLongEnough : Type 0
ReadsWhereLongEnough = (b : List ℕ) → IsText b
    → ((f : Frame) × (w : ℕ) × IsEntering b f w) ↔ ((14 ≤ length b) × (has_tag b ≡ true → 18 ≤ length b))

-- it is the text of one frame and VID alone
abbrev pub ReadsOneFrame : Type 0
ReadsOneFrame = (b : List ℕ) (f : Frame) (w : ℕ) → IsEntering b f w → (f ≡ frame_in b) × (w ≡ tag_vid b)

-- a text enters a segment exactly where it meets all that is asked of it
abbrev pub EntersExactly : Type 0
EntersExactly = (s : Ports) (port : ℕ) (b : List ℕ) (vid : ℕ) (f : Frame)
    → IsText b → (enters s port b ≡ Ok (vid, f)) ↔ Enters s port b vid f

-- and is refused exactly for the first reason that holds
abbrev pub RefusedExactly : Type 0
RefusedExactly = (s : Ports) (port : ℕ) (b : List ℕ) (refused : Refused)
    → (enters s port b ≡ Err refused) ↔ IsRefused s port b refused

-- the order of the checks is that of the reasons' numbers
abbrev pub InOrder : Type 0
InOrder = map number_of local_reasons ≡ 3 ∷ 4 ∷ 5 ∷ 6 ∷ 7 ∷ 8 ∷ 9 ∷ 10 ∷ 11 ∷ []
