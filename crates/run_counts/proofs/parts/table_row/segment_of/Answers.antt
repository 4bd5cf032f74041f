use Rattle.std.proofs.Common.{rules}
use Rattle.run_counts.proofs.SegmentLemmas.{no_number, nothing_told, segment_found, too_great}
use Rattle.run_counts.proofs.parts.table_row.segment_of.Goals as goal

pub returns-then-is_empty : goal.returns-then-is_empty
returns-then-is_empty c = nothing_told c.args.line.now c.first_word.result.1.now c.first_word-2.result.1.now c.first_word.ensures.behind c.first_word-2.ensures.behind (search rules)

pub returns-in_err-number_of : goal.returns-in_err-number_of
returns-in_err-number_of c =
    rw c.from_residual.ensures
    (no_number c.args.line.now c.first_word.result.1.now c.first_word-2.result.0.now c.first_word.ensures.behind c.first_word-2.ensures.word (search rules))

pub returns-in_err-ok : goal.returns-in_err-ok
returns-in_err-ok c =
    rw c.from_residual-in_err-ok.ensures
    (too_great c.args.line.now c.first_word.result.1.now c.first_word-2.result.0.now c.in_ok-number_of.field-0 c.first_word.ensures.behind c.first_word-2.ensures.word (search rules) (search rules))

pub returns : goal.returns
returns c =
    segment_found c.args.line.now c.first_word.result.1.now c.first_word-2.result.0.now c.first_word-2.result.1.now c.in_ok-ok.field-0 c.new.result (search rules) c.first_word.ensures.behind
    c.first_word-2.ensures.word c.first_word-2.ensures.behind (search rules) (search rules) c.new.ensures
