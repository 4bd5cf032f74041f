use Rattle.std.proofs.Common.{rules, arith, ◌≡◌, ◌<◌, ◌++◌}
use Rattle.std.proofs.Output.{has_written_append, has_written_of_eq}
use Rattle.std.proofs.lemmas.Grind.{common_steps}
use Rattle.report_page.specs.Lines.{lines_where}
use Rattle.report_page.proofs.Rows.{rows_end, rows_full, rows_go_on, rows_step}
use Rattle.report_page.proofs.chosen.FirstRowsDisplay.fmt.Goals as goal

pub loop-room-preserved : goal.loop-room-preserved
loop-room-preserved g c = λ plain.
    let some : 0 < c.loop-room.room = grind (arith, common_steps) in
    let so_far = c.loop-room.invariant plain in
    let split = rows_step (g.C.Choice.row_of c.args.self.now.choice) c.loop-room.room c.in-Some.line.now
    (lines_where (g.C.Choice.chooses c.args.self.now.choice) c.loop-room.rest.now)
    (lines_where (g.C.Choice.chooses c.args.self.now.choice) c.in-Some.behind.now) some c.in-Some.ensures.next in (
      so_far.0 ++ g.C.Choice.row_of c.args.self.now.choice c.in-Some.line.now,
      has_written_append _ _ _ _ _ _ so_far.1 (search rules),
      rows_go_on so_far.0 _ _ _ _ so_far.2 split,
    )

pub returns-clause-writes : goal.returns-clause-writes
returns-clause-writes g c = λ plain ok.
    let none : c.loop-room.room ≡ 0 = grind (arith, common_steps) in
    let so_far = c.loop-room.invariant plain in
    let left = rows_full (g.C.Choice.row_of c.args.self.now.choice) c.loop-room.room
    (lines_where (g.C.Choice.chooses c.args.self.now.choice) c.loop-room.rest.now) none in
    has_written_of_eq _ _ _ _ _ (rows_end so_far.0 _ _ left so_far.2) so_far.1
