use Rattle.std.proofs.Common.{◌≡◌, [], ◌∷◌, ◌++◌, length}
use Rattle.echo_window.specs.Echo.{crowded_by, first_met, newest, with_ages}
use Rattle.echo_window.specs.Laid.{told}
use Rattle.echo_window.proofs.window.Window.keep.Given as goal

-- the earliest goes only where the frames don't fit, and is counted
abbrev pub invariant-loop-self : goal.invariant-loop-self
invariant-loop-self l = record {
  within : l.self.within ≡ l.fn.self.within;
  newest : newest (l.self.came ++ first_met (told l.met) ∷ []) ≡ newest (l.fn.self.came ++ first_met (told l.met) ∷ []);
  forgotten : with_ages l.self.forgotten (crowded_by l.self.came (told l.met)) ≡ with_ages l.fn.self.forgotten (crowded_by l.fn.self.came (told l.met));
}

abbrev pub decreases-loop-self : goal.decreases-loop-self
decreases-loop-self l = length l.self.came
