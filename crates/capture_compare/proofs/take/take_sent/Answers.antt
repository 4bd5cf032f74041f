use Rattle.std.proofs.Common.{ap, sym, subst, refl, ◌-◌, List, Option}
use Rattle.std.specs.List.{FoldsTo}
use Rattle.record_match.specs.Settled.{Fact}
use Rattle.record_match.specs.Window.{at_moment}
use Rattle.capture_compare.specs.Key.{Key, told_by}
use Rattle.capture_compare.specs.Compared.{takes}
use Rattle.capture_compare.specs.Sifted.{sent_facts}
use Rattle.capture_compare.specs.Turns.{unless_full}
use Rattle.capture_compare.proofs.Sifting.{answer-by, facts-gone, kept-before, sent-aside, sent-full, sent-kept}
use Rattle.capture_compare.proofs.take.take_sent.Goals as goal

pub returns-in_default-clause-answer : goal.returns-in_default-clause-answer
returns-in_default-clause-answer g c = λ r e.
    ap (λ (k : Option Key). unless_full (takes (at_moment c.args.moment c.args.comparison.now.window) k) (c.args.moment - c.args.delay)) (c.in_default.ensures r e)

pub returns-in_default-clause-told : goal.returns-in_default-clause-told
returns-in_default-clause-told g c = λ r S R now log e i le early ok.
    sent-aside c.args.comparison.now c.args.aside.now log S R now c.args.moment (told_by c.args.manner.now r) (sym (c.in_default.ensures r e)) i le

pub returns-in_default-clause-seen : goal.returns-in_default-clause-seen
returns-in_default-clause-seen g c = λ r e.
    subst (λ (k : Option Key). FoldsTo g.W.Onlooker.sees c.args.onlooker.now (sent_facts k c.args.moment c.args.comparison.now.window) c.args.onlooker.now) (c.in_default.ensures r e) refl

pub returns-then-send-clause-answer : goal.returns-then-send-clause-answer
returns-then-send-clause-answer g c = λ r e.
    answer-by (at_moment c.args.moment c.args.comparison.now.window) (c.args.moment - c.args.delay) (sym (c.in-Some.ensures r e)) c.send.ensures.room c.if-send.true

pub returns-then-send-clause-told : goal.returns-then-send-clause-told
returns-then-send-clause-told g c = λ r S R now log e i le early ok.
    sent-kept c.args.comparison.now c.send.new.self c.args.aside.now log S R now c.args.moment (told_by c.args.manner.now r) _ (sym (c.in-Some.ensures r e)) i
    (c.send.ensures.told _ _ now log i.compared le (kept-before c.args.moment R early) c.if-send.true)

pub returns-then-send-clause-seen : goal.returns-then-send-clause-seen
returns-then-send-clause-seen g c = λ r e.
    subst (λ (l : List Fact). FoldsTo g.W.Onlooker.sees c.args.onlooker.now l c.send.new.onlooker)
    (sym (facts-gone c.args.moment c.args.comparison.now (told_by c.args.manner.now r) _ (sym (c.in-Some.ensures r e)))) c.send.ensures.seen

pub returns-else-send-clause-answer : goal.returns-else-send-clause-answer
returns-else-send-clause-answer g c = λ r e.
    answer-by (at_moment c.args.moment c.args.comparison.now.window) (c.args.moment - c.args.delay) (sym (c.in-Some.ensures r e)) c.send.ensures.room c.if-send.false

pub returns-else-send-clause-full : goal.returns-else-send-clause-full
returns-else-send-clause-full g c = λ r S R now log e i le bad.
    sent-full c.args.comparison.now c.send.new.self c.args.aside.now log S R now c.args.moment (told_by c.args.manner.now r) _ (sym (c.in-Some.ensures r e)) i
    (c.send.ensures.full _ _ now log i.compared le c.if-send.false)

pub returns-else-send-clause-seen : goal.returns-else-send-clause-seen
returns-else-send-clause-seen g c = λ r e.
    subst (λ (l : List Fact). FoldsTo g.W.Onlooker.sees c.args.onlooker.now l c.send.new.onlooker)
    (sym (facts-gone c.args.moment c.args.comparison.now (told_by c.args.manner.now r) _ (sym (c.in-Some.ensures r e)))) c.send.ensures.seen
