-- How many outlets a frame has at most. It states no standard.
use Rattle.std.specs.Prelude.{ℕ, ◌≤◌, ◌+◌, length}
use Rattle.wire.specs.Tag.{IsVid}
use Rattle.overlay.specs.Overlay.{Overlay, flood_at}
use Rattle.endpoint_core.specs.Settings.{Settings}

-- so many ports and the flood list of any segment are 32 together at most
abbrev pub AreFewOutlets : ℕ → Overlay → Type 0
AreFewOutlets ports overlay = (vid : ℕ) → IsVid vid → ports + length (flood_at overlay vid) ≤ 32

-- the local ports and the flood list of any segment are, so that a decision has room for what comes of each outlet
abbrev pub HasFewOutlets : Settings → Type 0
HasFewOutlets S = AreFewOutlets (length S.ports.ports) S.overlay
