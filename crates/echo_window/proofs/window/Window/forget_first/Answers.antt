use Rattle.std.proofs.Common.{List, ℕ, ◌+◌, ◌%◌, sym, subst, arith, deque_capacity}
use Rattle.echo_window.specs.Index.{IsKept}
use Rattle.echo_window.specs.declared.kept.Kept.{Kept}
use Rattle.echo_window.proofs.Indexing.{kept-drop}
use Rattle.echo_window.proofs.window.Window.forget_first.Goals as goal

pub invariant_of-self : goal.invariant_of-self
invariant_of-self c =
    let k = c.in-Some.kept in
    let ks = c.pop_front.new.self.items in
    let row = c.self.inside.row in
    let latest = c.self.inside.latest.items in
    let first = c.self.inside.first in
    let passed = c.self.inside.passed in
    let more = deque_capacity c.pop_front.new.self in
    let s = subst (λ (l : List Kept). IsKept l row (deque_capacity c.self.inside.frames) first passed latest) c.in-Some.ensures.items c.self.invariant in
    subst (λ (r : List ℕ). IsKept ks r more ((first + 1) % 18446744073709551616) ((passed + k.length) % 18446744073709551616) latest) (sym c.forget.ensures)
    (kept-drop (deque_capacity c.self.inside.frames) more first passed k ks row latest (omega (arith, c.pop_front.ensures.capacity)) s)
