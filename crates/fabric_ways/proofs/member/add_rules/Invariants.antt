use Rattle.std.proofs.Common.{◌≡◌, ◌++◌, map, take}
use Rattle.fabric_ways.specs.Members.{facts, facts_of}
use Rattle.fabric_ways.proofs.member.add_rules.Given as goal

abbrev pub invariant-loop-rule : goal.invariant-loop-rule
invariant-loop-rule l = map facts l.members.items ≡ map facts l.initial.members.items ++ map (facts_of l.leaf l.underlay) (take l.rule-index l.rules)
