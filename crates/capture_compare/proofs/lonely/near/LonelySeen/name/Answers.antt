use Rattle.std.proofs.Common.{◌∙◌}
use Rattle.record_match.specs.Kept.{told}
use Rattle.capture_compare.proofs.Looking.{inside-all, named-at, none-named}
use Rattle.capture_compare.proofs.lonely.near.LonelySeen.name.Goals as goal

pub let_go-requires : goal.let_go-requires
let_go-requires c = inside-all 256 c.in-Some.i c.pass.new.self c.in-Some.ensures.inside

pub returns-in-Some-clause-near : goal.returns-in-Some-clause-near
returns-in-Some-clause-near c =
    (named-at c.args.reading c.args.within (told c.args.sent.now) c.args.self.now c.pass.new.self c.in-Some.i c.in-Some.difference c.let_go.result
    c.pass.ensures c.in-Some.ensures c.let_go.ensures.number).0

pub returns-in-Some-clause-left : goal.returns-in-Some-clause-left
returns-in-Some-clause-left c =
    c.let_go.ensures.left
    ∙ (named-at c.args.reading c.args.within (told c.args.sent.now) c.args.self.now c.pass.new.self c.in-Some.i c.in-Some.difference c.let_go.result
    c.pass.ensures c.in-Some.ensures c.let_go.ensures.number).1

pub returns-in-None-clause-near : goal.returns-in-None-clause-near
returns-in-None-clause-near c =
    (none-named c.args.reading c.args.within (told c.args.sent.now) c.args.self.now c.pass.new.self c.pass.ensures c.in-None.ensures).0

pub returns-in-None-clause-left : goal.returns-in-None-clause-left
returns-in-None-clause-left c =
    (none-named c.args.reading c.args.within (told c.args.sent.now) c.args.self.now c.pass.new.self c.pass.ensures c.in-None.ensures).1
