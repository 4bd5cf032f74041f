use Rattle.json_lines.specs.Outcomes.{words}
use Rattle.json_lines.proofs.Values.{members_end}
use Rattle.json_lines.proofs.members.put_members.Goals as goal

pub returns : goal.returns
returns c =
    members_end c.args.form.now (words c.args.line.now) c.args.form.now.members.now c.loop-rest.rest.now c.loop-rest.out.items c.args.out.now.items c.loop-rest.mark c.is_empty.result
    c.in_default.len_below c.is_empty.ensures c.if-is_empty.false c.loop-rest.invariant.same
