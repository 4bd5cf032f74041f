use Rattle.std.proofs.Common.{◌≡◌, [], ◌∷◌, ◌++◌, true, sym, ◌∙◌, arith}
use Rattle.echo_window.specs.Echo.{first_met, fits}
use Rattle.echo_window.specs.Laid.{told}
use Rattle.echo_window.proofs.Crowding.{crowded-none}
use Rattle.echo_window.proofs.Keeping.{newest-fits}
use Rattle.echo_window.proofs.Showing.{same-window}
use Rattle.echo_window.proofs.window.Window.keep.Goals as goal

pub returns : goal.returns
returns c =
    let m = told c.args.met.now in
    let fit : fits (c.loop-self.self.came ++ first_met m ∷ []) ≡ true = grind arith in
    c.put.ensures
    ∙ same-window c.loop-self.invariant.within (sym (newest-fits (c.loop-self.self.came ++ first_met m ∷ []) fit) ∙ c.loop-self.invariant.newest)
    (sym (crowded-none c.loop-self.self.forgotten c.loop-self.self.came m fit) ∙ c.loop-self.invariant.forgotten)
