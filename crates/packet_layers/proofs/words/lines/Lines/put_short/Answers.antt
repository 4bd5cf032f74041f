use Rattle.std.proofs.Common.{◌∙◌, ℕ, List, ◌++◌, ap, sym}
use Rattle.std.proofs.lemmas.Fmt.{decimal_digit}
use Rattle.packet_layers.proofs.DigitLemmas.{decimal_two, decimal_three, decimal_four}
use Rattle.packet_layers.proofs.words.lines.Lines.put_short.Goals as goal

pub returns-then-number-lt10-clause-text : goal.returns-then-number-lt10-clause-text
returns-then-number-lt10-clause-text c =
    c.put_text.ensures.text ∙ ap (λ (t : List ℕ). c.args.self.now ++ t) (sym (decimal_digit c.args.number c.if-number-lt10.true))

pub returns-then-number-lt100-clause-text : goal.returns-then-number-lt100-clause-text
returns-then-number-lt100-clause-text c =
    c.put_text-then-number-lt100.ensures.text ∙ ap (λ (t : List ℕ). c.args.self.now ++ t) (sym (decimal_two c.args.number c.if-number-lt10.false c.if-number-lt100.true))

pub returns-then-number-lt1000-clause-text : goal.returns-then-number-lt1000-clause-text
returns-then-number-lt1000-clause-text c =
    c.put_three.ensures.text ∙ ap (λ (t : List ℕ). c.args.self.now ++ t) (sym (decimal_three c.args.number c.if-number-lt100.false c.if-number-lt1000.true))

pub returns-else-number-lt1000-clause-text : goal.returns-else-number-lt1000-clause-text
returns-else-number-lt1000-clause-text c =
    c.put_four.ensures.text ∙ ap (λ (t : List ℕ). c.args.self.now ++ t) (sym (decimal_four c.args.number c.if-number-lt1000.false c.requires.short))
