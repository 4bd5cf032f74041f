use Rattle.std.proofs.Common.{arith, deque_capacity}
use Rattle.echo_window.proofs.Indexing.{kept-none}
use Rattle.echo_window.proofs.window.Window.new.Goals as goal

pub invariant_of-result : goal.invariant_of-result
invariant_of-result c =
    kept-none (deque_capacity c.in_ok-with_capacity.field-0) c.in_ok-with_capacity.field-0.items c.in_ok-new.field-0 c.in_ok-vec.field-0.items c.in_ok-with_capacity.ensures.items
    (omega (arith, c.in_ok-with_capacity.ensures.capacity)) c.in_ok-new.ensures (omega (arith, c.in_ok-vec.ensures.len, c.in_ok-vec.field-0.ok.0))
