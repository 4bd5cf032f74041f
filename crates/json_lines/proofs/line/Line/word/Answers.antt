use Rattle.std.proofs.Common.{sym}
use Rattle.std.proofs.lemmas.List.{get_or_past}
use Rattle.json_lines.specs.Outcomes.{words}
use Rattle.json_lines.proofs.Pieces.{none_at, word_at}
use Rattle.json_lines.proofs.line.Line.word.Goals as goal

pub returns-then-at-pieces : goal.returns-then-at-pieces
returns-then-at-pieces c = word_at c.found-pieces.result.now (words c.args.self.now) c.args.at _ c.found-pieces.ensures c.if-at-pieces.true

pub returns-else-at-pieces : goal.returns-else-at-pieces
returns-else-at-pieces c =
    sym (get_or_past (words c.args.self.now) c.args.at _ (none_at c.found-pieces.result.now (words c.args.self.now) c.args.at c.found-pieces.ensures c.if-at-pieces.false c.requires))
