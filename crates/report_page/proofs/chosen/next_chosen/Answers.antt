use Rattle.std.proofs.Common.{arith, ◌∙◌, ◌≡◌, ap, sym, ◌<◌, length}
use Rattle.std.proofs.lemmas.Grind.{common_steps}
use Rattle.report_page.proofs.FirstLine.{behind_line_shorter}
use Rattle.report_page.proofs.Rows.{where_left_out, where_none, where_passed}
use Rattle.report_page.proofs.chosen.next_chosen.Goals as goal

pub returns-then-chooses-clause-next : goal.returns-then-chooses-clause-next
returns-then-chooses-clause-next g c =
    let some : 0 < length c.loop-rest.rest.now = grind (arith, common_steps) in
    sym c.loop-rest.invariant.same
    ∙ where_passed (g.C.Choice.chooses c.args.choice.now) c.loop-rest.rest.now c.first_line.result.0.now
    c.first_line.result.1.now c.chooses.result some
    c.first_line.ensures.line c.first_line.ensures.behind c.chooses.ensures c.if-chooses.true

pub returns-then-chooses-clause-shorter : goal.returns-then-chooses-clause-shorter
returns-then-chooses-clause-shorter g c =
    let some : 0 < length c.loop-rest.rest.now = grind (arith, common_steps) in
    let behind : length c.first_line.result.1.now ≡ _ = ap length c.first_line.ensures.behind in
    omega (arith, behind, behind_line_shorter c.loop-rest.rest.now some, c.loop-rest.invariant.shorter)

pub loop-rest-smaller : goal.loop-rest-smaller
loop-rest-smaller g c =
    let some : 0 < length c.loop-rest.rest.now = grind (arith, common_steps) in
    let behind : length c.first_line.result.1.now ≡ _ = ap length c.first_line.ensures.behind in
    omega (arith, behind, behind_line_shorter c.loop-rest.rest.now some)

pub loop-rest-preserved : goal.loop-rest-preserved
loop-rest-preserved g c =
    let some : 0 < length c.loop-rest.rest.now = grind (arith, common_steps) in
    let behind : length c.first_line.result.1.now ≡ _ = ap length c.first_line.ensures.behind in
    let same = where_left_out (g.C.Choice.chooses c.args.choice.now) c.loop-rest.rest.now c.first_line.result.0.now
    c.first_line.result.1.now c.chooses.result some c.first_line.ensures.line c.first_line.ensures.behind
    c.chooses.ensures c.if-chooses.false in
    record {
      same = sym same ∙ c.loop-rest.invariant.same;
      shorter = omega (arith, behind, behind_line_shorter c.loop-rest.rest.now some, c.loop-rest.invariant.shorter);
    }

pub returns-clause-next : goal.returns-clause-next
returns-clause-next g c =
    let none : length c.loop-rest.rest.now ≡ 0 = grind (arith, common_steps) in
    sym c.loop-rest.invariant.same ∙ where_none (g.C.Choice.chooses c.args.choice.now) c.loop-rest.rest.now none
