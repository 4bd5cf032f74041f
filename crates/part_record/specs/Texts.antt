-- What is told of the texts that a part left: of its tables at the end, and of its counts. It states no standard.
use Rattle.std.specs.Prelude.{ℕ, List, [], ◌++◌, codes, Option, None, Some, IfSome}
use Rattle.octet_sums.specs.declared.fletcher.sum.OctetSum.{OctetSum}
use Rattle.part_record.specs.Outputs.{IsTold, sums}
use Rattle.part_record.specs.declared.texts.ToldTexts.{ToldTexts}

-- what can be told of them
pub record AreTexts (t : ToldTexts) : Type 0 where
  pub tables : IfSome t.tables IsTold
  pub summary : IfSome t.summary IsTold

-- the line of a text, behind its word: the number of its octets, and their sums; none where the part left no such text
abbrev pub text_line : List ℕ → Option OctetSum → List ℕ
text_line word None = []
text_line word (Some s) = word ++ sums s

-- the lines of both
abbrev pub text_lines : ToldTexts → List ℕ
text_lines t = text_line (codes "text tables ") t.tables ++ text_line (codes "text summary ") t.summary
