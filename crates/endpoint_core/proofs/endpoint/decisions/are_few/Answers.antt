use Rattle.std.proofs.Common.{◌≡◌, ◌≤◌, ◌+◌, ℕ, sym, subst, length, arith, inl, inr}
use Rattle.std.proofs.lemmas.Bool.{cases_lt}
use Rattle.overlay.specs.Overlay.{flood_at}
use Rattle.endpoint_core.proofs.endpoint.decisions.are_few.Goals as goal

pub loop-index-init : goal.loop-index-init
loop-index-init c vid is early = absurd (omega (arith, is.0, early))

pub loop-index-preserved : goal.loop-index-preserved
loop-index-preserved c vid is early =
    elim (cases_lt vid (c.loop-index.index + 1)) [
      | inl low ↦ c.loop-index.invariant vid is (omega (arith, low))
      | inr high ↦
          let here : vid ≡ c.loop-index.index + 1 = omega (arith, early, high) in
          subst (λ (n : ℕ). c.args.ports + length (flood_at c.args.under.now n) ≤ 32) (sym here) (c.is_crowded.ensures.few c.if-is_crowded.false)
    ]

pub returns-then-is_crowded-clause-many : goal.returns-then-is_crowded-clause-many
returns-then-is_crowded-clause-many c few =
    let low : 1 ≤ c.loop-index.index + 1 = omega arith in
    let high : c.loop-index.index + 1 ≤ 4094 = omega arith in
    absurd (omega (arith, few (c.loop-index.index + 1) (low, high), c.is_crowded.ensures.crowded c.if-is_crowded.true))

pub returns-clause-few : goal.returns-clause-few
returns-clause-few c all vid is = c.loop-index.invariant vid is (omega (arith, is.1))
