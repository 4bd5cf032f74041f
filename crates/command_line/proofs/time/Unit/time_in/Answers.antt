use Rattle.std.proofs.Common.{◌≡◌, ◌∙◌, ◌++◌, ◌*◌, ◌<◌, Some, sym, ap, subst}
use Rattle.std.specs.Option.{SomeIff}
use Rattle.std.proofs.lemmas.Bool.Decides.{Decides-eqb}
use Rattle.std.proofs.lemmas.Slice.Eq.{strip_suffix_is}
use Rattle.command_line.specs.Time.{word_of}
use Rattle.command_line.proofs.Times.{counted, no_number}
use Rattle.command_line.proofs.time.Unit.time_in.Goals as goal

pub returns-in_err-number_of : goal.returns-in_err-number_of
returns-in_err-number_of c =
    let whole : c.args.text.now ≡ c.in_ok-digits.digits.now ++ word_of c.args.self =
    strip_suffix_is Decides-eqb c.args.text.now c.word.result.now (Some c.in_ok-digits.digits) c.in_ok-digits.ensures.cases ∙ ap (λ w. c.in_ok-digits.digits.now ++ w) c.word.ensures in
    rw c.from_residual-in_err-number_of.ensures (no_number c.args.self c.args.text.now c.in_ok-digits.digits.now whole (sym c.number_of.ensures ∙ c.in_err-number_of.was))

pub returns : goal.returns
returns c =
    let whole : c.args.text.now ≡ c.in_ok-digits.digits.now ++ word_of c.args.self =
    strip_suffix_is Decides-eqb c.args.text.now c.word.result.now (Some c.in_ok-digits.digits) c.in_ok-digits.ensures.cases ∙ ap (λ w. c.in_ok-digits.digits.now ++ w) c.word.ensures in
    counted c.args.self c.args.text.now c.in_ok-digits.digits.now c.in_ok-number_of.field-0 c.checked_mul.result whole (sym c.number_of.ensures ∙ c.in_ok-number_of.was)
    (subst (λ n. SomeIff c.checked_mul.result (c.in_ok-number_of.field-0 * n < 18446744073709551616) (c.in_ok-number_of.field-0 * n)) c.size.ensures c.checked_mul.ensures)
