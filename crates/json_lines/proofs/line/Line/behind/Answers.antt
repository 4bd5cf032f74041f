use Rattle.std.proofs.Common.{sym}
use Rattle.std.proofs.lemmas.List.{drop_all}
use Rattle.json_lines.specs.Outcomes.{words}
use Rattle.json_lines.proofs.Pieces.{none_at, words_from}
use Rattle.json_lines.proofs.line.Line.behind.Goals as goal

pub returns-then-count-pieces : goal.returns-then-count-pieces
returns-then-count-pieces c = words_from c.found-pieces.result.now (words c.args.self.now) c.args.count _ c.found-pieces.ensures c.if-count-pieces.true

pub returns-else-count-pieces : goal.returns-else-count-pieces
returns-else-count-pieces c =
    sym (drop_all c.args.count (words c.args.self.now) (none_at c.found-pieces.result.now (words c.args.self.now) c.args.count c.found-pieces.ensures c.if-count-pieces.false c.requires))
