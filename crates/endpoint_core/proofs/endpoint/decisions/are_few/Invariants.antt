use Rattle.std.proofs.Common.{ℕ, ◌≤◌, ◌+◌, length}
use Rattle.wire.specs.Tag.{IsVid}
use Rattle.overlay.specs.Overlay.{flood_at}
use Rattle.endpoint_core.proofs.endpoint.decisions.are_few.Given as goal

-- with the VIDs so far it is so
abbrev pub invariant-loop-index : goal.invariant-loop-index
invariant-loop-index l = (vid : ℕ) → IsVid vid → vid ≤ l.index → l.ports + length (flood_at l.under vid) ≤ 32
