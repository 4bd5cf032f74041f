use Rattle.json_lines.proofs.Values.{outcome_sent, outcome_unsent, puts_same}
use Rattle.json_lines.proofs.outcomes.put_outcome.Goals as goal

pub returns-then-mark-eq61 : goal.returns-then-mark-eq61
returns-then-mark-eq61 c =
    puts_same c.put_sent.result c.args.out.now.items c.put_sent.new.out.items _ _
    (outcome_sent c.args.word.now c.parts-mark.result.0.now c.parts-mark.result.2.now c.parts-mark.result.1
    c.parts-mark.ensures.place c.parts-mark.ensures.mark c.parts-mark.ensures.behind c.if-mark-eq61.true c.requires) c.put_sent.ensures

pub returns-else-mark-eq61 : goal.returns-else-mark-eq61
returns-else-mark-eq61 c =
    puts_same c.put_unsent.result c.args.out.now.items c.put_unsent.new.out.items _ _
    (outcome_unsent c.args.word.now c.parts-mark.result.0.now c.parts-mark.result.2.now c.parts-mark.result.1
    c.parts-mark.ensures.place c.parts-mark.ensures.mark c.parts-mark.ensures.behind c.if-mark-eq61.false) c.put_unsent.ensures
