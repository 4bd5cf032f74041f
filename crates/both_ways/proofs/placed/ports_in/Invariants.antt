use Rattle.std.proofs.Common.{◌≡◌, drop}
use Rattle.both_ways.specs.Placed.{ports_in, with_ports}
use Rattle.both_ways.proofs.placed.ports_in.Given as goal

-- those that are left are put yet
abbrev pub invariant-loop-place : goal.invariant-loop-place
invariant-loop-place l = with_ports l.ports (drop l.place-index l.places) ≡ ports_in l.places
