use Rattle.std.proofs.Common.{◌∙◌, sym}
use Rattle.overlay.proofs.WalkLemmas.{whatever, first-above, none-above}
use Rattle.overlay.proofs.ports.walk.Walk.next.Goals as goal

pub returns-in_err-next-clause-none : goal.returns-in_err-next-clause-none
returns-in_err-next-clause-none c =
    let w = c.self.inside in
    whatever c.from_residual.result (sym c.self.view_is ∙ none-above w.words.now w.vid w.ports w.position.after c.in_err-next.ensures.none)

pub returns-clause-some : goal.returns-clause-some
returns-clause-some c =
    let w = c.self.inside in
    let found = c.in_ok-next.ensures.found in
    sym c.self.view_is ∙ first-above w.words.now w.vid w.ports w.position.after c.in_ok-next.next.after found.0 found.1 found.2 c.in_ok-next.ensures.least
