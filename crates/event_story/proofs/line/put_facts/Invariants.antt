use Rattle.std.proofs.Common.{◌≡◌, ◌++◌, drop}
use Rattle.std.specs.List.{flat_map}
use Rattle.std.specs.String.{string_bytes}
use Rattle.event_story.specs.Line.{fact_line}
use Rattle.event_story.proofs.line.put_facts.Given as goal

-- with what is left put too, it is all
abbrev pub invariant-loop-fact : goal.invariant-loop-fact
invariant-loop-fact l = string_bytes l.text ++ flat_map fact_line (drop l.fact-index l.facts) ≡ string_bytes l.fn.text ++ flat_map fact_line l.facts
