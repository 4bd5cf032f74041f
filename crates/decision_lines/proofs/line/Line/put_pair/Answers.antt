use Rattle.std.proofs.Common.{◌≡◌, ◌∙◌, ◌+◌, ◌/◌, ◌%◌, ◌<◌, ℕ, ap, arith}
use Rattle.decision_lines.proofs.LineLemmas.{pair_at, put_two}
use Rattle.decision_lines.proofs.line.Line.put_pair.Goals as goal

pub returns-clause-text : goal.returns-clause-text
returns-clause-text c =
    let i = c.from.result in
    let same : i ≡ c.args.number = c.from.ensures in
    let small : i < 100 = omega (arith, same, c.requires.two) in
    let pair = pair_at i small in
    put_two c.args.self.now c.put_octet.new.self c.put_octet-2.new.self _ _ (48 + c.args.number / 10) (48 + c.args.number % 10) c.put_octet.ensures.text c.put_octet-2.ensures.text
    (pair.0 ∙ ap (λ (n : ℕ). 48 + n / 10) same) (pair.1 ∙ ap (λ (n : ℕ). 48 + n % 10) same)
