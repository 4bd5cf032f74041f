use Rattle.std.proofs.Common.{◌≡◌}
use Rattle.report_page.specs.Told.{behind_words}
use Rattle.report_page.proofs.told_rows.word_at.Given as goal

-- so many words are passed over
abbrev pub invariant-loop : goal.invariant-loop
invariant-loop l = l.rest ≡ behind_words l.counter l.line
