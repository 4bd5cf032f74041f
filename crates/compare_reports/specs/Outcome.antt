-- What comes of two captures that are compared. It states no standard.
use Rattle.std.specs.Prelude.{◌≡◌, ℕ, List, ◌++◌}
use Rattle.record_match.specs.Settled.{Fact, held_alone}
use Rattle.record_match.specs.declared.clock.Clock.{Clock}
use Rattle.capture_compare.specs.Compared.{Tells}
use Rattle.capture_compare.specs.Sifted.{Sifting}
use Rattle.capture_compare.specs.declared.carried.key.Manner.{Manner}
use Rattle.compare_reports.specs.declared.paired.Outcome.{Outcome}

-- what was counted of these octets, where whoever looks on was told this: what was told while they were compared, and of what
-- was held still at their end that it was sent alone
pub record IsOutcome (manner : Manner) (clock : Clock) (sent received : List ℕ) (log : List Fact) (o : Outcome) : Type 0 where
  pub compared : Sifting
  pub tells : Tells manner clock sent received compared o.end
  pub counts_are : o.counts ≡ record { sent = compared.sent; received = compared.received; both = compared.both }
  pub cut_is : o.cut ≡ compared.cut
  pub aside_is : o.aside ≡ compared.aside
  pub told_is : log ≡ compared.log ++ held_alone compared.window.records compared.window.held
