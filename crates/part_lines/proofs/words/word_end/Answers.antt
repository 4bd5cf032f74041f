use Rattle.std.proofs.Common.{◌≡◌, ◌+◌, ◌-◌, ◌∙◌, ap, sym, take, drop, length, arith}
use Rattle.std.proofs.lemmas.List.{drop-take, drop_all, take_all}
use Rattle.line_words.proofs.Splits.{before_found, before_lacks, behind_found, behind_lacks}
use Rattle.part_lines.proofs.Splits.{spaces_found, spaces_lacks}
use Rattle.part_lines.proofs.words.word_end.Goals as goal

pub returns-in-Some-clause-word : goal.returns-in-Some-clause-word
returns-in-Some-clause-word c =
    let line = c.args.line.now in
    let from = c.args.from in
    let end = c.in-Some.end in
    let there : from + (end - from) ≡ end = omega (arith, c.in-Some.ensures.low) in
    before_found 32 line from end c.in-Some.ensures ∙ sym (drop-take from (end - from) line) ∙ ap (λ k. drop from (take k line)) there

pub returns-in-Some-clause-behind : goal.returns-in-Some-clause-behind
returns-in-Some-clause-behind c = behind_found 32 c.args.line.now c.args.from c.in-Some.end c.in-Some.ensures

pub returns-in-None-clause-word : goal.returns-in-None-clause-word
returns-in-None-clause-word c =
    let line = c.args.line.now in
    before_lacks 32 line c.args.from c.in-None.ensures ∙ ap (drop c.args.from) (sym (take_all (length line) line (omega arith)))

pub returns-in-None-clause-behind : goal.returns-in-None-clause-behind
returns-in-None-clause-behind c = behind_lacks 32 c.args.line.now c.args.from c.in-None.ensures ∙ sym (drop_all _ c.args.line.now (omega arith))

pub returns-in-Some-clause-inner : goal.returns-in-Some-clause-inner
returns-in-Some-clause-inner c = λ inside. spaces_found c.args.line.now c.args.from c.in-Some.end c.in-Some.ensures

pub returns-in-None-clause-last : goal.returns-in-None-clause-last
returns-in-None-clause-last c = λ whole. spaces_lacks c.args.line.now c.args.from c.in-None.ensures
