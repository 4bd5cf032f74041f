-- The words for the outputs of a merge. It states no standard.
use Rattle.std.specs.Prelude.{ℕ, List, codes}
use Rattle.timeline.specs.Words.{tap_word}
use Rattle.part_merge.specs.declared.fault.Target.{Target}
use Rattle.part_merge.specs.declared.fault.Target.TheVariants as targets

-- p1 for port 1, u for the underlay, and decisions
abbrev pub target_word : Target → List ℕ
target_word (targets.Capture tap) = tap_word tap
target_word targets.Decisions = codes "decisions"
