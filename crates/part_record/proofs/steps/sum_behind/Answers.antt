use Rattle.std.proofs.Common.{◌∙◌}
use Rattle.hex.specs.Hex.{encode_lower}
use Rattle.part_record.proofs.Lines.{behind_word, no_sum}
use Rattle.part_record.proofs.steps.sum_behind.Goals as goal

pub returns-in_default : goal.returns-in_default
returns-in_default c sum rest is e =
    c.in_default.ensures (encode_lower sum) rest (behind_word c.args.text.now c.args.word.now (encode_lower sum) rest c.in_ok-told.told.now c.in_ok-told.ensures e)

pub returns-in_default-sum_of : goal.returns-in_default-sum_of
returns-in_default-sum_of c =
    no_sum c.args.text.now c.args.word.now c.in_ok-told.told.now c.in-Some.digits.now c.in-Some.rest.now c.in_ok-told.ensures c.in-Some.ensures.0 c.in-Some.ensures.1
    (λ sum is e. c.in_default-sum_of.ensures sum is (c.as_bytes.ensures.value ∙ e))
