use Rattle.std.proofs.Common.{◌≡◌, drop}
use Rattle.change_story.specs.Checks.{refusal}
use Rattle.change_story.proofs.story.refusal.Given as goal

-- none so far refuses
abbrev pub invariant-loop-check : goal.invariant-loop-check
invariant-loop-check l = refusal (drop l.check-index l.checks) ≡ refusal l.checks
