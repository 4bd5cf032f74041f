use Rattle.std.proofs.Common.{◌≡◌, ◌<◌, ◌-◌, ◌^◌, ℕ, List}
use Rattle.compare_on_files.specs.Finding.{StandsIn}
use Rattle.compare_on_files.proofs.events.events.RecordEvents.event_of.Given as goal

-- it stands in the text still, and not behind the record
abbrev pub invariant-loop-self : goal.invariant-loop-self
invariant-loop-self g l = record {
  tap : l.self.tap ≡ l.initial.self.tap;
  passed : l.self.passed < l.k;
  reads : l.self.failures ≡ l.initial.self.failures;
  stands : (text : List ℕ) → StandsIn text l.initial.self → StandsIn text l.self;
}

abbrev pub decreases-loop-self : goal.decreases-loop-self
decreases-loop-self g l = 2 ^ 64 - l.self.number
