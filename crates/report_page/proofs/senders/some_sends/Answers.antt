use Rattle.std.proofs.Common.{arith, ◌≡◌, ◌∙◌, ap, sym, length}
use Rattle.std.proofs.lemmas.List.{get_or_default, length-map}
use Rattle.report_page.specs.Senders.{mark_of, sends}
use Rattle.report_page.specs.declared.senders.Sender.{Sender}
use Rattle.report_page.proofs.Marks.{none_at_all, none_so_far}
use Rattle.report_page.proofs.senders.some_sends.Goals as goal

pub loop-place-preserved : goal.loop-place-preserved
loop-place-preserved c =
    let as_many : length c.args.marks.now ≡ length c.args.senders.now = ap length c.requires ∙ length-map c.args.senders.now mark_of in
    let first = c.in-Some.ensures in
    record {
      none =
          none_so_far c.args.there c.args.wanted.now c.args.senders.now c.args.marks.now c.mark-mark.result c.loop-place.at
          c.in-Some.place c.requires c.mark-mark.ensures first (omega (arith, first.inside, as_many)) c.loop-place.invariant.none
          (ap (λ (s : Sender). sends c.args.there c.args.wanted.now.segment.now c.args.wanted.now.source.now c.args.wanted.now.place.now s)
          (get_or_default c.args.senders.now c.in-Some.place c.args.wanted.now _ (omega (arith, first.inside, as_many)))
          ∙ sym c.sends.ensures ∙ c.if-sends.false);
      inside = omega (arith, first.inside, as_many);
    }

pub returns : goal.returns
returns c =
    sym (none_at_all c.args.there c.args.wanted.now c.args.senders.now c.args.marks.now c.mark-mark.result c.loop-place.at
    c.requires c.mark-mark.ensures c.in_default.ensures c.loop-place.invariant.none)
