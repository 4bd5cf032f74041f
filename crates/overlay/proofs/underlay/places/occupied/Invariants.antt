use Rattle.std.proofs.Common.{◌≡◌, ◌≤◌, take}
use Rattle.overlay.specs.Seats.{occupied}
use Rattle.overlay.proofs.underlay.places.occupied.Given as goal

-- the places so far that have a segment
abbrev pub invariant-loop-row : goal.invariant-loop-row
invariant-loop-row l = record { so_far : l.count ≡ occupied (take l.row-index l.rows); few : l.count ≤ l.row-index }
