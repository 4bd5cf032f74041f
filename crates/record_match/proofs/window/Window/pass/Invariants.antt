use Rattle.std.proofs.Common.{◌≡◌, length}
use Rattle.record_match.specs.Settled.{over_alone}
use Rattle.record_match.specs.Window.{still_held}
use Rattle.record_match.proofs.Looking.{Continues}
use Rattle.record_match.proofs.window.Window.pass.Given as goal

-- only records that are over go, and are told
abbrev pub invariant-loop-self : goal.invariant-loop-self
invariant-loop-self g l = record {
  within : l.self.within ≡ l.fn.self.within;
  records : l.self.records ≡ l.fn.self.records;
  octets : l.self.octets ≡ l.fn.self.octets;
  held : still_held l.fn.self.within l.now l.self.held ≡ still_held l.fn.self.within l.now l.fn.self.held;
  told : Continues g.W.Onlooker.sees l.fn.onlooker (over_alone l.fn.self.within l.now l.fn.self.records l.fn.self.held) l.onlooker
      (over_alone l.fn.self.within l.now l.self.records l.self.held);
}

abbrev pub decreases-loop-self : goal.decreases-loop-self
decreases-loop-self g l = length l.self.held
