use Rattle.std.proofs.Common.{◌≡◌, length}
use Rattle.record_match.specs.Settled.{held_alone}
use Rattle.record_match.proofs.Looking.{Continues}
use Rattle.record_match.proofs.window.Window.finish.Given as goal

-- one after another goes, and is told
abbrev pub invariant-loop-self : goal.invariant-loop-self
invariant-loop-self g l = record {
  within : l.self.within ≡ l.fn.self.within;
  records : l.self.records ≡ l.fn.self.records;
  octets : l.self.octets ≡ l.fn.self.octets;
  told : Continues g.W.Onlooker.sees l.fn.onlooker (held_alone l.fn.self.records l.fn.self.held) l.onlooker (held_alone l.self.records l.self.held);
}

abbrev pub decreases-loop-self : goal.decreases-loop-self
decreases-loop-self g l = length l.self.held
