use Rattle.std.proofs.Common.{◌≡◌, ◌++◌, map}
use Rattle.std.specs.Vec.Iter.{into_iter_items}
use Rattle.overlay.specs.Settings.{member_rule, table_rule, tunnel_rule}
use Rattle.endpoint_core.proofs.state.layers.layer_rules.Given as goal

-- so far the rules of the segments that were taken
abbrev pub invariant-loop-segment : goal.invariant-loop-segment
invariant-loop-segment l =
    record {
      next : (goal.iterator-loop-segment).can_next l.segment-iterator;
      finite : (goal.iterator-loop-segment).is_finite l.segment-iterator;
      all : l.yielded ++ into_iter_items l.segment-iterator ≡ l.fn.segments.items;
      tables : l.tables.items ≡ map table_rule l.yielded;
      members : l.members.items ≡ map member_rule l.yielded;
      tunnels : l.tunnels.items ≡ map tunnel_rule l.yielded;
    }
