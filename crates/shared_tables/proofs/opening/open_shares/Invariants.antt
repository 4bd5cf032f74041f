use Rattle.std.proofs.Common.{take}
use Rattle.shared_tables.specs.Opened.{AreOpened}
use Rattle.shared_tables.proofs.opening.open_shares.Given as goal

-- the rules so far have their shares
abbrev pub invariant-loop-rule : goal.invariant-loop-rule
invariant-loop-rule l = AreOpened (take l.rule-index l.rules) l.shares.items
