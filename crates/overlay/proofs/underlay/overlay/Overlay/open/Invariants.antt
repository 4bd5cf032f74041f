use Rattle.std.proofs.Common.{◌≡◌, ◌++◌}
use Rattle.std.specs.Vec.Iter.{into_iter_items}
use Rattle.overlay.specs.Overlay.{told}
use Rattle.overlay.proofs.underlay.overlay.Overlay.open.Given as goal

-- so far the rules that were taken are told
abbrev pub invariant-loop-rule : goal.invariant-loop-rule
invariant-loop-rule l =
    (goal.iterator-loop-rule).can_next l.rule-iterator ×
    (goal.iterator-loop-rule).is_finite l.rule-iterator ×
    (l.under ≡ told l.fn.underlay l.yielded) ×
    (l.yielded ++ into_iter_items l.rule-iterator ≡ l.fn.rules.items)
