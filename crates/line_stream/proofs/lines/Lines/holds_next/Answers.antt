use Rattle.std.proofs.Common.{◌∙◌, ◌-◌, ap, List, ℕ, take, drop}
use Rattle.line_stream.specs.Lines.{has_line, holds_line}
use Rattle.line_stream.proofs.Fills.{sliced}
use Rattle.line_stream.proofs.lines.Lines.holds_next.Goals as goal

pub returns : goal.returns
returns g c =
    let s = c.self.inside in
    c.has_line.ensures
    ∙ ap (λ (l : List ℕ). has_line (take (s.lent.read - s.lent.end) (drop s.lent.end l))) c.deref.ensures.value
    ∙ ap has_line (sliced s.room.items s.lent.end s.lent.read c.self.invariant.end)
    ∙ ap holds_line c.self.view_is
