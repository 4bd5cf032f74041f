use Rattle.std.proofs.Common.{◌≡◌, ◌++◌, map}
use Rattle.std.specs.Vec.Iter.{into_iter_items}
use Rattle.overlay.specs.Settings.{tunnel_rule}
use Rattle.capture_compare.proofs.segments.index.tunnel_rules.Given as goal

-- so far the rules of the segments that were taken
abbrev pub invariant-loop-segment : goal.invariant-loop-segment
invariant-loop-segment l =
    record {
      next : (goal.iterator-loop-segment).can_next l.segment-iterator;
      finite : (goal.iterator-loop-segment).is_finite l.segment-iterator;
      all : l.yielded ++ into_iter_items l.segment-iterator ≡ l.fn.segments.items;
      rules : l.rules.items ≡ map tunnel_rule l.yielded;
    }
