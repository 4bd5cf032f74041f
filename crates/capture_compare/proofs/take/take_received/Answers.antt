use Rattle.std.proofs.Common.{refl, sym, subst, List, Option}
use Rattle.std.specs.List.{FoldsTo}
use Rattle.record_match.specs.Settled.{Fact}
use Rattle.capture_compare.specs.Key.{Key, told_by}
use Rattle.capture_compare.specs.Sifted.{received_facts}
use Rattle.capture_compare.proofs.Sifting.{facts-kept, received-aside, received-kept}
use Rattle.capture_compare.proofs.take.take_received.Goals as goal

pub returns-in-None-clause-told : goal.returns-in-None-clause-told
returns-in-None-clause-told g c = λ r S R now log e i le.
    received-aside c.args.comparison.now c.args.aside.now log S R now c.args.moment (told_by c.args.manner.now r) (sym (c.in-None.ensures r e)) i le

pub returns-in-None-clause-seen : goal.returns-in-None-clause-seen
returns-in-None-clause-seen g c = λ r e.
    subst (λ (k : Option Key). FoldsTo g.W.Onlooker.sees c.args.onlooker.now (received_facts k c.args.moment c.args.comparison.now) c.args.onlooker.now) (c.in-None.ensures r e) refl

pub returns-in-Some-clause-told : goal.returns-in-Some-clause-told
returns-in-Some-clause-told g c = λ r S R now log e i le.
    received-kept c.args.comparison.now c.receive.new.self c.args.aside.now log S R now c.args.moment (told_by c.args.manner.now r) _ (sym (c.in-Some.ensures r e)) i
    (c.receive.ensures.told _ _ now log i.compared le)

pub returns-in-Some-clause-seen : goal.returns-in-Some-clause-seen
returns-in-Some-clause-seen g c = λ r e.
    subst (λ (l : List Fact). FoldsTo g.W.Onlooker.sees c.args.onlooker.now l c.receive.new.onlooker)
    (sym (facts-kept c.args.moment c.args.comparison.now (told_by c.args.manner.now r) _ (sym (c.in-Some.ensures r e)))) c.receive.ensures.seen
