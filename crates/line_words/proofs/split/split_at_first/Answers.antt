use Rattle.std.proofs.Common.{◌≡◌, ◌-◌, ◌∙◌, take, sym, ap, arith}
use Rattle.std.proofs.lemmas.List.{take_rest}
use Rattle.line_words.proofs.Splits.{before_lacks, behind_lacks, before_found, behind_found}
use Rattle.line_words.proofs.split.split_at_first.Goals as goal

pub returns-in-Some-clause-before : goal.returns-in-Some-clause-before
returns-in-Some-clause-before c =
    let at = c.in-Some.at in
    let whole : at ≡ at - 0 = omega arith in
    ap (λ k. take k c.args.text.now) whole ∙ sym (before_found c.args.octet c.args.text.now 0 at c.in-Some.ensures)

pub returns-in-Some-clause-behind : goal.returns-in-Some-clause-behind
returns-in-Some-clause-behind c = rw (behind_found c.args.octet c.args.text.now 0 c.in-Some.at c.in-Some.ensures, take_rest)

pub returns-in-None-clause-before : goal.returns-in-None-clause-before
returns-in-None-clause-before c = sym (before_lacks c.args.octet c.args.text.now 0 c.in-None.ensures)

pub returns-in-None-clause-behind : goal.returns-in-None-clause-behind
returns-in-None-clause-behind c = sym (behind_lacks c.args.octet c.args.text.now 0 c.in-None.ensures)
