use Rattle.std.proofs.Common.{rules, ◌<◌, sym, subst, arith}
use Rattle.std.proofs.lemmas.List.{take_all}
use Rattle.shared_tables.specs.Opened.{AreOpened}
use Rattle.shared_tables.proofs.OnEntries.OpenedLemmas.{opened_none, opened_more}
use Rattle.shared_tables.proofs.opening.open_shares.Goals as goal

pub loop-rule-init : goal.loop-rule-init
loop-rule-init c = subst (AreOpened _) (sym (c.in_ok-shares.ensures.items_if_clones_equal (λ y h. search rules))) opened_none

pub loop-rule-preserved : goal.loop-rule-preserved
loop-rule-preserved c =
    let rule = c.rule-item.result in
    let some_time : 0 < rule.ageing = search rules in
    opened_more c.args.rules.now c.loop-rule.rule-index rule c.loop-rule.shares.items c.open_share.new.shares.items c.requires.distinct c.loop-rule-test.true c.rule-item.is c.open_share.ensures.in_range some_time
    c.open_share.ensures.items c.loop-rule.invariant

pub returns : goal.returns
returns c = subst (λ rs. AreOpened rs c.loop-rule.shares.items) (take_all c.loop-rule.rule-index c.args.rules.now (omega arith)) c.loop-rule.invariant
