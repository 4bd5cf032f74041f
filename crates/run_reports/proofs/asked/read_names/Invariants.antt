use Rattle.std.proofs.Common.{◌≡◌, map, take}
use Rattle.run_reports.specs.Reading.{asked_in}
use Rattle.run_reports.proofs.asked.read_names.Given as goal

-- the names of the texts so far
abbrev pub invariant-loop-place : goal.invariant-loop-place
invariant-loop-place l = l.names.items ≡ asked_in 0 (map (λ text. text.now) (take l.place l.texts))
