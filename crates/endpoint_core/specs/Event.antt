-- What comes to an endpoint: frames at its local ports, packets from its underlay, and changes of its settings.
-- It states no standard.
use Rattle.std.specs.Prelude.{◌≤◌, ℕ, List, [], ◌∷◌}
use Rattle.overlay.specs.declared.settings.change.Change.{Change}

-- a frame, a packet or a change
pub data Input : Type 0 where
  -- a local frame: its port, its original length, and its octets as far as they were captured
  FrameAt : (port original : ℕ) (octets : List ℕ) → Input
  -- an outer packet: its original length, and its octets as far as they were captured
  Packet : (original : ℕ) (octets : List ℕ) → Input
  -- a change of the settings
  Asks : (change : Change) → Input

-- what comes at a moment
pub record Event : Type 0 where
  pub at : ℕ
  pub input : Input

-- from this moment on, none is before the one that came before it
abbrev pub IsRising : ℕ → List Event → Type 0
IsRising t [] = Unit {0}
IsRising t (e ∷ es) = (t ≤ e.at) × IsRising e.at es

-- a frame, a packet and a change at a moment
abbrev pub frame_at : ℕ → ℕ → ℕ → List ℕ → Event
frame_at t port original octets = record { at = t; input = FrameAt port original octets }

-- a packet from the underlay
abbrev pub packet_at : ℕ → ℕ → List ℕ → Event
packet_at t original octets = record { at = t; input = Packet original octets }

-- a change of the settings
abbrev pub change_at : ℕ → Change → Event
change_at t c = record { at = t; input = Asks c }
