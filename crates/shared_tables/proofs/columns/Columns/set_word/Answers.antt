use Rattle.std.proofs.Common.{arith}
use Rattle.shared_tables.proofs.OnTrees.ColumnsLemmas.{side_kept, side_changed}
use Rattle.shared_tables.proofs.columns.Columns.set_word.Goals as goal

pub index_mut-requires : goal.index_mut-requires
index_mut-requires c = omega (arith, side_kept c.self.inside c.self.invariant _ c.self.view_is c.args.place c.requires.side c.requires.there, c.self.inside.numbers.ok.0)

pub returns : goal.returns
returns c = side_changed c.self.inside c.self.invariant _ c.self.view_is c.args.place c.requires.side c.requires.there c.args.word
