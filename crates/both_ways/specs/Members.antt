-- Ports of a row that are there. It serves proofs.
use Rattle.std.specs.Prelude.{◌≤◌, ℕ, length}
use Rattle.overlay.specs.Row.{Row}

abbrev pub IsThere : Row → ℕ → Type 0
IsThere row port = (1 ≤ port) × (port ≤ length row.ports)
