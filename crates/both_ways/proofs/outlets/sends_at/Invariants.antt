use Rattle.std.proofs.Common.{◌≡◌, length}
use Rattle.std.specs.List.{filter}
use Rattle.overlay.specs.Row.{is_up}
use Rattle.both_ways.specs.Told.{outlets, with_places}
use Rattle.both_ways.proofs.Leaving.{AreThere}
use Rattle.both_ways.proofs.outlets.sends_at.Given as goal

-- what is left of the members is put yet
abbrev pub invariant-loop-port : goal.invariant-loop-port
invariant-loop-port l = record {
  places : with_places l.places (filter (is_up l.row) l.members) ≡ outlets l.fn.ports l.fn.vid;
  there : AreThere l.row l.members;
}

abbrev pub decreases-loop-port : goal.decreases-loop-port
decreases-loop-port l = length l.members
