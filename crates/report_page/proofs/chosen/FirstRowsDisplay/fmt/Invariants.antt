use Rattle.std.proofs.Common.{◌≡◌, ℕ, List, ◌++◌, take}
use Rattle.std.specs.Fmt.{HasWritten, IsPlainFormatter}
use Rattle.report_page.specs.Lines.{lines_where}
use Rattle.report_page.specs.Told.{rows_of}
use Rattle.report_page.proofs.chosen.FirstRowsDisplay.fmt.Given as goal

-- what was written is all rows but those of what is left
abbrev pub invariant-loop-room : goal.invariant-loop-room
invariant-loop-room g l =
    IsPlainFormatter l.initial.f
    → (done : List ℕ) × HasWritten g.W.Write.write_str_gives l.initial.f done l.f
    × (done ++ rows_of (g.C.Choice.row_of l.self.choice) (take l.room (lines_where (g.C.Choice.chooses l.self.choice) l.rest))
    ≡ rows_of (g.C.Choice.row_of l.self.choice) (take 1000 (lines_where (g.C.Choice.chooses l.self.choice) l.self.text.now)))

abbrev pub decreases-loop-room : goal.decreases-loop-room
decreases-loop-room g l = l.room
