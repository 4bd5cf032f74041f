use Rattle.std.proofs.Common.{arith}
use Rattle.ranked_rows.proofs.Numbering.{appended}
use Rattle.ranked_rows.proofs.numbers.append.Goals as goal

pub returns-clause-rows : goal.returns-clause-rows
returns-clause-rows g c =
    let pushed = rw (c.push.ensures.succeeds (omega (arith, c.requires.few, c.requires.room))) at c.push.ensures.items in
    let put = rw (c.insert.ensures.succeeds (omega (arith, c.requires.few, c.requires.space, c.requires.numbers.many))) at c.insert.ensures.items in
    (appended c.args.rows.now.items c.push.new.self.items c.args.order.now.items c.insert.new.self.items c.args.at c.len-number.result c.args.row pushed put (omega (arith, c.len-number.ensures)) c.requires.inside c.requires.numbers).0

pub returns-clause-numbers : goal.returns-clause-numbers
returns-clause-numbers g c =
    let pushed = rw (c.push.ensures.succeeds (omega (arith, c.requires.few, c.requires.room))) at c.push.ensures.items in
    let put = rw (c.insert.ensures.succeeds (omega (arith, c.requires.few, c.requires.space, c.requires.numbers.many))) at c.insert.ensures.items in
    (appended c.args.rows.now.items c.push.new.self.items c.args.order.now.items c.insert.new.self.items c.args.at c.len-number.result c.args.row pushed put (omega (arith, c.len-number.ensures)) c.requires.inside c.requires.numbers).1
