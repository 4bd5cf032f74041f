-- One segment of an endpoint among others, and alone. It states no standard.
--     concerns, only      the events of a run that concern a segment
--     told, told_in      what all events are answered, and what those are, each with its moment
--     Agree      for a segment two states are one
use Rattle.std.specs.Prelude.{◌≡◌, ◌≤◌, ℕ, ◌==◌, Bool, true, false, ◌||◌, if◌then◌else◌, List, [], ◌∷◌, Option}
use Rattle.std.specs.Option.{option_map, option_map_or}
use Rattle.overlay.specs.declared.underlay.tunnels.SegmentTunnel.{SegmentTunnel}
use Rattle.endpoint_core.specs.Settings.{Settings, SegmentSettings, segment_at}
use Rattle.endpoint_core.specs.Effect.{Effect, ToLimit, ToPort, Comes, Goes, effect}
use Rattle.endpoint_core.specs.Change.{is_about}
use Rattle.endpoint_core.specs.State.{State as Bridges, aged}
use Rattle.endpoint_core.specs.Event.{Input, FrameAt, Packet, Asks, Event}
use Rattle.endpoint_core.specs.Step.{State, Answer, Decided, Replied, answer, after}

-- ---- the events of a segment

-- the segment of this VID, and not another or none
abbrev pub is_segment : ℕ → Option ℕ → Bool
is_segment vid segment = option_map_or (λ own. vid == own) segment false

-- a decision that carries the segment
abbrev pub carries : ℕ → Answer → Bool
carries vid (Decided decision) = is_segment vid decision.segment
carries vid (Replied fault) = false

-- every segment sees it: it is of the ports, or a segment comes, goes or gets another limit, which leaves more or less room
-- for all others
abbrev pub all_see : Effect → Bool
all_see (ToLimit vid limit) = true
all_see (ToPort port up) = true
all_see (Comes new) = true
all_see (Goes vid) = true
all_see _ = false

-- a frame or a packet whose decision carries the segment; a change that names it, or that every segment sees
abbrev pub concerns_by : ℕ → Answer → Input → Bool
concerns_by vid a (FrameAt port original b) = carries vid a
concerns_by vid a (Packet original b) = carries vid a
concerns_by vid a (Asks c) = is_about vid c || all_see (effect c)

-- an event that comes to an endpoint in state s
abbrev pub concerns : ℕ → State → Event → Bool
concerns vid s e = concerns_by vid (answer s e) e.input

-- the events that concern the segment, of those that come from state s on: without the changes that name another segment
-- and that not every segment sees, and without the frames and packets whose decision carries another segment or none
abbrev pub only : ℕ → State → List Event → List Event
only vid s [] = []
only vid s (e ∷ es) =
    let rest = only vid (after s e) es in
    if concerns vid s e then e ∷ rest else rest

-- ---- what is answered

-- an answer with its moment: a decision with its emissions, octet for octet, or what became of a change
pub record Told : Type 0 where
  pub at : ℕ
  pub reply : Answer

-- what a segment is told of an event
abbrev pub told_of : State → Event → Told
told_of s e = record { at = e.at; reply = answer s e }

-- to all events
abbrev pub told : State → List Event → List Told
told s [] = []
told s (e ∷ es) = told_of s e ∷ told (after s e) es

-- to those that concern the segment, among all the others
abbrev pub told_in : ℕ → State → List Event → List Told
told_in vid s [] = []
told_in vid s (e ∷ es) =
    let rest = told_in vid (after s e) es in
    if concerns vid s e then told_of s e ∷ rest else rest

-- ---- what a segment knows

-- what is known of a segment in every other: its tunnels, with the kind and the VNI of each, and the limit of its table
pub record Summary : Type 0 where
  pub tunnels : List SegmentTunnel
  pub limit : ℕ

-- what all segments see of one: its tunnels and its limit
abbrev pub summary_of : SegmentSettings → Summary
summary_of s = record { tunnels = s.tunnels; limit = s.limit }

-- the same of the segment of a VID, where it has one
abbrev pub summary_at : Settings → ℕ → Option Summary
summary_at S vid = option_map summary_of (segment_at S vid)

-- from moment t on, two states have the same for the segment of this VID
pub record Agree (vid t : ℕ) (B C : Bridges) : Type 0 where
  -- what is live of its table
  pub table : (u : ℕ) → t ≤ u → (aged u B).tables vid ≡ (aged u C).tables vid
  -- its settings
  pub settings : segment_at B.settings vid ≡ segment_at C.settings vid
  -- the ports, with the state of each
  pub ports : B.settings.ports.ports ≡ C.settings.ports.ports
  pub underlay : B.settings.overlay.underlay ≡ C.settings.overlay.underlay
  -- the most entries that all tables together may be given
  pub pool : B.settings.pool ≡ C.settings.pool
  -- the segments, each by its VID, with its tunnels and its limit
  pub segments : (w : ℕ) → summary_at B.settings w ≡ summary_at C.settings w
