use Rattle.std.proofs.Common.{rules, ◌++◌, refl, nat_lt, []}
use Rattle.std.proofs.Output.{has_written_append}
use Rattle.report_page.specs.Told.{row_where, talks_of}
use Rattle.report_page.proofs.BySegment.{largest_at_first, largest_step}
use Rattle.report_page.proofs.Rows.{rows_go_on}
use Rattle.report_page.proofs.talks.LargestRowsDisplay.fmt.Goals as goal

pub loop-line-init : goal.loop-line-init
loop-line-init g c = λ plain. ([], search rules, largest_at_first (talks_of c.args.self.now.0.now))

pub loop-line-preserved : goal.loop-line-preserved
loop-line-preserved g c = λ plain.
    let so_far = c.loop-line.invariant plain in
    let split = largest_step c.loop-line.room c.room_for-here.result c.saturating_sub-room.result c.loop-line.before.now
    c.word_at-segment.result.now c.in-Some.line.now (talks_of c.loop-line.rest.now) (talks_of c.in-Some.behind.now)
    (nat_lt 0 c.room_for-here.result) c.in-Some.ensures.next c.word_at-segment.ensures c.room_for-here.ensures refl (search rules) in (
      so_far.0 ++ row_where (nat_lt 0 c.room_for-here.result) c.in-Some.line.now,
      has_written_append _ _ _ _ _ _ so_far.1 (search rules),
      rows_go_on so_far.0 _ _ _ _ so_far.2 split,
    )
