use Rattle.std.proofs.Common.{◌≡◌, map, drop}
use Rattle.text_advice.specs.Allowed.{sentence_row_of, sentence_in}
use Rattle.text_advice.proofs.allowed.sentence_in.Given as goal

abbrev pub invariant-loop-row : goal.invariant-loop-row
invariant-loop-row l = sentence_in (map sentence_row_of (drop l.row-index l.rows)) l.path l.variant l.fault ≡ sentence_in (map sentence_row_of l.rows) l.path l.variant l.fault
