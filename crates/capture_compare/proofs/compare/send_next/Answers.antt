use Rattle.std.proofs.Common.{refl, rules}
use Rattle.std.proofs.lemmas.Result.{err_from_is_err_and}
use Rattle.capture_compare.proofs.Showing.{shown-full, shown-sent}
use Rattle.capture_compare.proofs.compare.send_next.Goals as goal

pub returns-in_err-take_sent-clause-told : goal.returns-in_err-take_sent-clause-told
returns-in_err-take_sent-clause-told g c =
    λ clock s0 r0 r receiving start h turn.
    let p = err_from_is_err_and c.from_residual.result c.from_residual.ensures.1 in
    rw (p.1, p.2) (shown-full g.W.Onlooker.sees start c.args.onlooker.now c.take_sent.new.onlooker c.args.manner.now clock s0 r0 c.args.source.now r c.args.sending.now receiving c.args.sending.now c.args.comparison.now c.take_sent.new.comparison c.args.aside.now c.take_sent.new.aside c.args.moment c.delay.result c.in_err-take_sent.field-0.0 h turn c.delay.ensures
    (search rules) c.in_err-take_sent.ensures.answer (λ x S R now log e i le. c.in_err-take_sent.ensures.full x S R now log e i le refl) c.in_err-take_sent.ensures.within c.in_err-take_sent.ensures.seen)

pub returns-clause-told : goal.returns-clause-told
returns-clause-told g c =
    λ clock s0 r0 r receiving start h turn.
    shown-sent g.W.Onlooker.sees start c.args.onlooker.now c.take_sent.new.onlooker c.args.manner.now clock s0 r0 c.args.source.now c.fetch.new.source r c.args.sending.now c.fetch.new.self receiving c.args.comparison.now c.take_sent.new.comparison c.args.aside.now c.take_sent.new.aside c.args.moment _ c.fetch.result h turn
    c.in_ok-take_sent.ensures.answer (λ x S R now log e i le early. c.in_ok-take_sent.ensures.told x S R now log e i le early refl) c.in_ok-take_sent.ensures.within c.in_ok-take_sent.ensures.seen (c.fetch.ensures.fetched c.args.manner.now)
