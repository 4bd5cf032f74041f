use Rattle.std.proofs.Common.{◌≡◌, take}
use Rattle.overlay.specs.Seats.{occupied}
use Rattle.overlay.proofs.underlay.places.free_place.Given as goal

-- so far no place is free
abbrev pub invariant-loop-place : goal.invariant-loop-place
invariant-loop-place l = occupied (take l.place l.fn.rows) ≡ l.place
