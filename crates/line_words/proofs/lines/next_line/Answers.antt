use Rattle.std.proofs.Common.{arith}
use Rattle.std.proofs.lemmas.List.{take_rest}
use Rattle.line_words.proofs.Splits.{none_from}
use Rattle.line_words.proofs.Telling.{lines_at, lines_none}
use Rattle.line_words.proofs.lines.next_line.Goals as goal

pub returns-in-Some-clause-lines : goal.returns-in-Some-clause-lines
returns-in-Some-clause-lines c =
    let first = c.in-Some.ensures in
    rw (lines_at c.args.text.now c.in-Some.end first.inside first.here (λ k lt. first.before k (omega arith) lt), take_rest)

pub returns-in-None-clause-parts : goal.returns-in-None-clause-parts
returns-in-None-clause-parts c = none_from 10 c.args.text.now 0 c.in-None.ensures

pub returns-in-None-clause-lines : goal.returns-in-None-clause-lines
returns-in-None-clause-lines c = lines_none c.args.text.now (none_from 10 c.args.text.now 0 c.in-None.ensures)
