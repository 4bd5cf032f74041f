use Rattle.std.proofs.Common.{◌≡◌, ℕ, List, ◌++◌, length}
use Rattle.std.specs.Fmt.{HasWritten, IsPlainFormatter}
use Rattle.report_page.specs.Told.{by_segments, largest_of, rows_of, talk_row, talks_of}
use Rattle.report_page.proofs.BySegment.{shown_of}
use Rattle.report_page.proofs.talks.LargestRowsDisplay.fmt.Given as goal

-- what was written is all rows but those of what is left
abbrev pub invariant-loop-line : goal.invariant-loop-line
invariant-loop-line g l =
    IsPlainFormatter l.initial.f
    → (done : List ℕ) × HasWritten g.W.Write.write_str_gives l.initial.f done l.f
    × (done ++ rows_of talk_row (shown_of l.room l.before (by_segments (talks_of l.rest)))
    ≡ rows_of talk_row (largest_of (talks_of l.self.0.now)))

abbrev pub decreases-loop-line : goal.decreases-loop-line
decreases-loop-line g l = length l.rest
