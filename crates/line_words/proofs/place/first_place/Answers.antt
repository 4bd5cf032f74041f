use Rattle.std.proofs.Common.{◌+◌, ◌-◌, inl, inr, arith}
use Rattle.std.proofs.lemmas.Bool.{cases_lt}
use Rattle.line_words.proofs.Marks.{first_marked, later, none_marked}
use Rattle.line_words.proofs.place.first_place.Goals as goal

pub returns-then-marks-ne0 : goal.returns-then-marks-ne0
returns-then-marks-ne0 c =
    let start = c.min-start.result in
    let at = c.loop-at.at in
    let first = first_marked c.args.octet c.args.text.now start at (start + 16 - at) c.marks.result (omega arith) (omega arith) (omega arith) c.marks.ensures c.if-marks-ne0.true in
    later _ _ c.args.from at _ c.loop-at.invariant.low c.loop-at.invariant.before first

pub loop-at-preserved : goal.loop-at-preserved
loop-at-preserved c =
    let start = c.min-start.result in
    let at = c.loop-at.at in
    record {
      low = omega arith;
      before = λ k from to.
          elim (cases_lt k at) [
            | inl early ↦ c.loop-at.invariant.before k from early
            | inr late ↦ none_marked c.args.octet c.args.text.now start at (start + 16 - at) c.marks.result (omega arith) (omega arith) (omega arith) c.marks.ensures c.if-marks-ne0.false k late to
          ];
    }
