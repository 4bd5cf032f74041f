use Rattle.std.proofs.Common.{arith, ◌∙◌, ap, sym, ◌||◌, false, length, take, []}
use Rattle.std.proofs.Common.{◌∷◌, ◌-◌}
use Rattle.std.proofs.lemmas.Grind.{common_steps}
use Rattle.std.proofs.lemmas.List.{length-append}
use Rattle.std.specs.List.{list_any}
use Rattle.report_page.specs.Senders.{sends}
use Rattle.report_page.specs.Told.{is_elsewhere, talks_of}
use Rattle.report_page.proofs.Marks.{elsewhere_is, first_taken, known_already, no_more, one_less, one_more}
use Rattle.report_page.proofs.senders.senders_of.Goals as goal
use Rattle.report_page.proofs.senders.senders_of.Goals.{then-not-has, else-not-has}

pub loop-left-preserved : goal.loop-left-preserved
loop-left-preserved c =
    let some = c.loop-left-test.true in
    let sender = c.of-sender.result in
    let line = c.in-Some.line.now in
    let is = elsewhere_is line sender c.of-sender.ensures.segment c.of-sender.ensures.source c.of-sender.ensures.place in
    elim c.if-not-has.branch [
      | then-not-has w ↦
          let now = w.senders-is ∙ w.add.ensures in
          record {
            few = omega (arith, some, ap length now, length-append c.loop-left.senders (sender ∷ []), c.loop-left.invariant.few);
            same = λ segment source place.
                one_less (sends false segment source place) (is_elsewhere segment source place) c.loop-left.senders c.if-not-has.senders
                sender line (take (c.loop-left.left - 1) (talks_of c.in-Some.behind.now)) (is segment source place)
                (ap (list_any (sends false segment source place)) now
                ∙ one_more (sends false segment source place) c.loop-left.senders sender)
                ∙ ap (λ b. list_any (sends false segment source place) c.loop-left.senders || b)
                (sym (first_taken (is_elsewhere segment source place) c.loop-left.left (talks_of c.loop-left.rest.now)
                (talks_of c.in-Some.behind.now) line some c.in-Some.ensures.next))
                ∙ c.loop-left.invariant.same segment source place;
          }
      | else-not-has w ↦
          record {
            few = omega (arith, some, ap length w.senders-is, c.loop-left.invariant.few);
            same = λ segment source place.
                one_less (sends false segment source place) (is_elsewhere segment source place) c.loop-left.senders c.if-not-has.senders
                sender line (take (c.loop-left.left - 1) (talks_of c.in-Some.behind.now)) (is segment source place)
                (ap (list_any (sends false segment source place)) w.senders-is
                ∙ sym (known_already sender c.loop-left.senders (sym c.has.ensures ∙ w.if-not-has.false) segment source place))
                ∙ ap (λ b. list_any (sends false segment source place) c.loop-left.senders || b)
                (sym (first_taken (is_elsewhere segment source place) c.loop-left.left (talks_of c.loop-left.rest.now)
                (talks_of c.in-Some.behind.now) line some c.in-Some.ensures.next))
                ∙ c.loop-left.invariant.same segment source place;
          }
    ]

pub returns : goal.returns
returns c = λ segment source place.
    no_more (sends false segment source place) (is_elsewhere segment source place) c.loop-left.senders c.loop-left.left
    (talks_of c.loop-left.rest.now) (list_any (is_elsewhere segment source place) (take 4096 (talks_of c.args.text.now)))
    (grind (arith, common_steps)) (c.loop-left.invariant.same segment source place)
