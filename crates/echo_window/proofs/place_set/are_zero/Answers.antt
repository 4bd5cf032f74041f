use Rattle.std.proofs.Common.{◌≡◌, ◌∙◌, ℕ, Bool, true, false, get_or, nat_lt, refl, sym, arith, below_more}
use Rattle.std.proofs.lemmas.Bool.{eqb-false, eqb-true, ltb-false, ltb-true}
use Rattle.std.proofs.lemmas.List.{get_or_past}
use Rattle.echo_window.proofs.Placing.{bit-set, none-set}
use Rattle.echo_window.proofs.place_set.are_zero.Goals as goal

pub returns-then-not-is_zero : goal.returns-then-not-is_zero
returns-then-not-is_zero c =
    let word = get_or c.args.words.now c.loop-i.i 0 in
    let other = eqb-false word 0 (sym c.is_zero.ensures.value ∙ c.if-not-is_zero.true) in
    sym (bit-set c.args.words.now c.loop-i.i c.loop-i-test.true (omega (arith, other)) c.is_zero.ensures.range)

pub loop-i-preserved : goal.loop-i-preserved
loop-i-preserved c = below_more _ _ c.loop-i.invariant (eqb-true (get_or c.args.words.now c.loop-i.i 0) 0 (sym c.is_zero.ensures.value ∙ c.if-not-is_zero.false))

pub returns : goal.returns
returns c = sym (none-set c.args.words.now (λ i. by i (nat_lt i 4) refl))
  where
    by : (i : ℕ) (q : Bool) → nat_lt i 4 ≡ q → get_or c.args.words.now i 0 ≡ 0
    by i true h = c.loop-i.invariant i (omega (arith, ltb-true i 4 h, c.loop-i-test.false))
    by i false h = get_or_past c.args.words.now i 0 (omega (arith, ltb-false i 4 h, c.told-words))
