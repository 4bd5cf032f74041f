use Rattle.std.proofs.Common.{sym, ap, ◌∙◌, ◌*◌, ◌+◌, ℕ}
use Rattle.segment_set.proofs.Numbers.{too_great}
use Rattle.segment_set.proofs.item.vid_in.Goals as goal

pub returns-then-number-gt4094-clause-value : goal.returns-then-number-gt4094-clause-value
returns-then-number-gt4094-clause-value c =
    too_great c.loop-digit.number c.loop-digit.digit-index _ c.args.digits.now c.args.digits.now c.loop-digit-test.true (sym c.is_ascii_digit.ensures.value ∙ c.if-not-is_ascii_digit.false) (ap (λ (d : ℕ). c.loop-digit.number * 10 + d) c.from.ensures) c.if-number-gt4094.true c.loop-digit.invariant.same
