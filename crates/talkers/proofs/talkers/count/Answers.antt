use Rattle.std.proofs.Common.{sym, subst, Option}
use Rattle.talkers.specs.Talkers.{Takes, talk_rows}
use Rattle.talkers.specs.declared.coming.Coming.{Coming}
use Rattle.talkers.proofs.Counting.{takes_none, takes_one}
use Rattle.talkers.proofs.talkers.count.Goals as goal

pub returns-in-Some : goal.returns-in-Some
returns-in-Some c =
    subst (λ (o : Option Coming). Takes c.args.rows.now (talk_rows o c.args.to) c.add.new.self) (sym c.in-Some.is)
    (takes_one c.args.rows.now c.add.new.self c.in-Some.coming c.args.to c.talk.result c.passed.result c.talk.ensures c.passed.ensures c.add.ensures)

pub returns-in-None : goal.returns-in-None
returns-in-None c = subst (λ (o : Option Coming). Takes c.args.rows.now (talk_rows o c.args.to) c.args.rows.now) (sym c.in-None.is) (takes_none c.args.rows.now)
