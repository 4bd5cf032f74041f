use Rattle.std.proofs.Common.{◌∙◌, ℕ, Bool, List, false, replicate, ap, sym, subst}
use Rattle.std.specs.List.{filter}
use Rattle.overlay.specs.Row.{Row, is_up, member_ports}
use Rattle.both_ways.specs.Told.{with_places}
use Rattle.both_ways.proofs.Leaving.{AreThere, members_there}
use Rattle.both_ways.proofs.outlets.sends_at.Goals as goal

pub loop-port-init : goal.loop-port-init
loop-port-init c =
    let row = c.row-row.result in
    let walk = c.members-members.ensures in
    record {
      places =
          ap (λ (s : List Bool). with_places s (filter (is_up row) c.members-members.result)) c.new-places.ensures
          ∙ ap (λ (ps : List ℕ). with_places (replicate 256 false) (filter (is_up row) ps)) walk
          ∙ ap (λ (r : Row). with_places (replicate 256 false) (filter (is_up r) (member_ports r))) c.row-row.ensures.value;
      there = subst (AreThere row) (sym walk) (members_there row);
    }
