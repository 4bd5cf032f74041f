use Rattle.std.proofs.Common.{◌-◌, ◌∙◌, arith}
use Rattle.std.proofs.lemmas.List.{get_or_read}
use Rattle.shared_tables.proofs.OnTrees.ColumnsLemmas.{side_kept, side_seen}
use Rattle.shared_tables.proofs.columns.Columns.word.Goals as goal

pub index-requires : goal.index-requires
index-requires c = omega (arith, side_kept c.self.inside c.self.invariant _ c.self.view_is c.args.place c.requires.side c.requires.there, c.self.inside.numbers.ok.0)

pub returns : goal.returns
returns c =
    let a = c.self.inside in
    let kept = side_kept a c.self.invariant _ c.self.view_is c.args.place c.requires.side c.requires.there in
    get_or_read a.numbers.items (c.args.place - 786432) c.index.result.now kept c.index.ensures 4294967295
    ∙ side_seen a c.self.invariant _ c.self.view_is c.args.place c.requires.side c.requires.there 4294967295
