use Rattle.std.proofs.Common.{◌≡◌, length}
use Rattle.echo_window.specs.Echo.{recent}
use Rattle.echo_window.proofs.window.Window.forget_past.Given as goal

-- a frame goes only where it came in too early
abbrev pub invariant-loop-self : goal.invariant-loop-self
invariant-loop-self l = record {
  within : l.self.within ≡ l.fn.self.within;
  forgotten : l.self.forgotten ≡ l.fn.self.forgotten;
  recent : recent l.self.within l.moment l.self.came ≡ recent l.fn.self.within l.moment l.fn.self.came;
}

abbrev pub decreases-loop-self : goal.decreases-loop-self
decreases-loop-self l = length l.self.came
