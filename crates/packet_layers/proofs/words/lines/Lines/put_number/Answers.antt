use Rattle.std.proofs.Common.{◌∙◌, ◌/◌, ◌%◌, ℕ, List, ◌++◌, decimal, ap, sym, arith, append_assoc}
use Rattle.packet_layers.proofs.DigitLemmas.{four, decimal_fours}
use Rattle.packet_layers.proofs.words.lines.Lines.put_number.Goals as goal

pub returns-then-number-lt100000000-clause-text : goal.returns-then-number-lt100000000-clause-text
returns-then-number-lt100000000-clause-text c =
    let n = c.args.number in
    let old = c.args.self.now in
    c.put_four.ensures.text ∙ ap (λ (t : List ℕ). t ++ four (n % 10000)) c.put_short-then-number-lt100000000.ensures.text
    ∙ append_assoc old (decimal (n / 10000)) (four (n % 10000))
    ∙ ap (λ (t : List ℕ). old ++ t) (sym (decimal_fours n (omega (arith, c.if-number-lt10000.false)) c.ranges.number.fits))
