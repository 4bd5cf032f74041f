use Rattle.std.proofs.Common.{◌≡◌, ℕ, ◌==◌, length, sym, ap, ◌∙◌, arith, deque_len}
use Rattle.record_match.proofs.Showing.{count-is, held-is}
use Rattle.record_match.proofs.window.Window.is_empty.Goals as goal

pub returns : goal.returns
returns c =
    let n : deque_len c.self.inside.kept ≡ length c.self.inside.kept.items = omega (arith, c.self.inside.kept.ok.0) in
    c.is_empty.ensures ∙ ap (λ (n : ℕ). n == 0) (n ∙ sym (count-is _ _ _ (held-is c.self.view_is)))
