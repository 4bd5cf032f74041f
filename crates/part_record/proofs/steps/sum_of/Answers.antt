use Rattle.std.proofs.Common.{◌≡◌, ◌∙◌, sym, ap, refl, true, false, Result, is_err}
use Rattle.hex.specs.Hex.{encode_lower}
use Rattle.hex.specs.declared.error.FromHexError.{FromHexError}
use Rattle.part_record.proofs.Lines.{hex_read, hex_sum}
use Rattle.part_record.proofs.steps.sum_of.Goals as goal

pub returns-then-is_err : goal.returns-then-is_err
returns-then-is_err c sum is e =
    let read = hex_read c.args.digits.now sum c.decode_to_slice.new.out 32 c.decode_to_slice.result is refl e c.decode_to_slice.ensures.value in
    let wrong : true ≡ false = sym c.if-is_err.true ∙ c.is_err.ensures.value ∙ ap (λ (r : Result (Unit {0}) FromHexError). is_err r) read.0 in
    cc

pub returns-then-is_same : goal.returns-then-is_same
returns-then-is_same c = (
  hex_sum c.args.digits.now c.decode_to_slice.new.out c.decode_to_slice.result c.decode_to_slice.ensures.value (sym c.is_err.ensures.value ∙ c.if-is_err.false),
  sym (c.if-is_same.ensures.0 refl) ∙ c.as_slice.ensures ∙ c.digits_of-again.ensures,
)

pub returns-else-is_same : goal.returns-else-is_same
returns-else-is_same c sum is e =
    let read = hex_read c.args.digits.now sum c.decode_to_slice.new.out 32 c.decode_to_slice.result is refl e c.decode_to_slice.ensures.value in
    let wrong = c.if-is_same.ensures.1 (c.as_slice.ensures ∙ c.digits_of-again.ensures ∙ ap encode_lower read.1 ∙ sym e) in
    cc wrong
