-- A member port of a row. It states no standard.
use Rattle.std.specs.Prelude.{◌≤◌, ℕ, IsTrue, length}
use Rattle.overlay.specs.Row.{Row, is_member}

-- there is a port of this number, and it is a member
abbrev pub IsMember : Row → ℕ → Type 0
IsMember row port = (1 ≤ port) × (port ≤ length row.ports) × IsTrue (is_member row port)
