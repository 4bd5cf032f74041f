-- The words for outputs. It states no standard.
use Rattle.std.specs.Prelude.{ℕ, List, ◌++◌, codes, decimal}
use Rattle.stream_run.specs.declared.fault.Target.{Target}
use Rattle.stream_run.specs.declared.fault.Target.TheVariants as targets

-- p1 for the capture of port 1, u for the underlay's, decisions for the lines
abbrev pub target_word : Target → List ℕ
target_word (targets.Port port) = codes "p" ++ decimal port
target_word targets.Underlay = codes "u"
target_word targets.Decisions = codes "decisions"
