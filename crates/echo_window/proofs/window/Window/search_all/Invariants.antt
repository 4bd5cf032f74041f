use Rattle.echo_window.specs.Laid.{told}
use Rattle.echo_window.proofs.Searching.{Goes}
use Rattle.echo_window.proofs.window.Window.search_all.Given as goal

-- what was found is the first of those from the last one looked at on
abbrev pub invariant-loop-i : goal.invariant-loop-i
invariant-loop-i l = Goes l.self.came l.self.within (told l.met) l.i l.end l.found

abbrev pub decreases-loop-i : goal.decreases-loop-i
decreases-loop-i l = l.end
