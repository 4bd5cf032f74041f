use Rattle.std.proofs.Common.{◌≡◌, ◌++◌, drop}
use Rattle.std.specs.String.{string_bytes}
use Rattle.change_story.specs.Checks.{told}
use Rattle.change_story.specs.Seen.{seen_text}
use Rattle.change_story.proofs.line.put_told.Given as goal

-- with what the checks that are left saw put too, it is all
abbrev pub invariant-loop-check : goal.invariant-loop-check
invariant-loop-check l = string_bytes l.text ++ seen_text (told (drop l.check-index l.checks)) ≡ string_bytes l.fn.text ++ seen_text (told l.checks)
