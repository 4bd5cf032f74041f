-- Two captures, compared, and what is told at the end.
use Rattle.std.proofs.Common.{◌≡◌, refl, sym, subst, ℕ, List, Some, Result}
use Rattle.std.specs.List.{FoldsTo}
use Rattle.pcap.specs.Source.{Stream}
use Rattle.record_match.specs.Compared.{Counted}
use Rattle.record_match.specs.Settled.{Fact, Shows, held_alone}
use Rattle.record_match.specs.declared.clock.Clock.{Clock}
use Rattle.record_match.proofs.Looking.{shows-more}
use Rattle.capture_compare.specs.Compared.{Tells}
use Rattle.capture_compare.specs.Sifted.{sifting}
use Rattle.capture_compare.specs.declared.aside.Aside.{Aside}
use Rattle.capture_compare.specs.declared.carried.key.Manner.{Manner}
use Rattle.capture_compare.specs.declared.fault.CompareFault.{CompareFault}
use Rattle.compare_reports.specs.Outcome.{IsOutcome}
use Rattle.compare_reports.specs.declared.paired.Outcome.{Outcome}

module _ {W : Type 0} (sees : W → Fact → W → Type 0) where
  -- of what is held still at the end it is told that it was sent alone
  pub ends : (manner : Manner) (clock : Clock) (s r : Stream) (c : Counted) (aside : Aside) (end : Result (Unit {0}) CompareFault) (o : Outcome) (start middle new : W)
      → Shows sees start middle (λ log. (sent_text received_text : List ℕ) → s.supply.rest ≡ Some sent_text → r.supply.rest ≡ Some received_text → Tells manner clock sent_text received_text (sifting c log aside) end)
      → FoldsTo sees middle (held_alone c.window.records c.window.held) new
      → o.end ≡ end → o.counts ≡ record { sent = c.sent; received = c.received; both = c.both } → o.cut ≡ c.cut → o.aside ≡ aside
      → Shows sees start new (λ log. (sent_text received_text : List ℕ) → s.supply.rest ≡ Some sent_text → r.supply.rest ≡ Some received_text → IsOutcome manner clock sent_text received_text log o)
  ends manner clock s r c aside end o start middle new told held is counts cut left =
      shows-more sees start middle new (held_alone c.window.records c.window.held) told held (λ sent_text received_text a b. record {
        compared = sifting c told.facts aside;
        tells = subst (λ (e : Result (Unit {0}) CompareFault). Tells manner clock sent_text received_text (sifting c told.facts aside) e) (sym is) (told.so sent_text received_text a b);
        counts_are = counts;
        cut_is = cut;
        aside_is = left;
        told_is = refl;
      })
