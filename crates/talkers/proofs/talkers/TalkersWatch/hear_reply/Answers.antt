use Rattle.std.proofs.Common.{ap, subst, []}
use Rattle.talkers.specs.Talkers.{Takes, Talkers}
use Rattle.talkers.proofs.Counting.{takes_none}
use Rattle.talkers.proofs.talkers.TalkersWatch.hear_reply.Goals as goal

pub returns : goal.returns
returns c before d expects = record {
  rows = subst (λ (t : Talkers). Takes t.rows [] c.args.self.now.rows) expects (takes_none c.args.self.now.rows);
  coming = ap (λ (t : Talkers). t.coming) expects;
}
