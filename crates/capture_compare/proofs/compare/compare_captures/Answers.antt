use Rattle.std.proofs.Common.{◌∙◌, refl, sym, []}
use Rattle.std.proofs.lemmas.Result.{err_from_is_err_and}
use Rattle.capture_compare.specs.Sifted.{sifting}
use Rattle.capture_compare.specs.declared.fault.Side.TheVariants as sides
use Rattle.capture_compare.proofs.Sifting.{first-sifted}
use Rattle.capture_compare.proofs.Stepping.{all-compared, all-cut, both-begun, not-begun, not-begun-behind, received-fits, sent-fits, stands-as, stops-as}
use Rattle.capture_compare.proofs.compare.compare_captures.Goals as goal

pub returns-in_err-open-clause-told : goal.returns-in_err-open-clause-told
returns-in_err-open-clause-told g c =
    let p = err_from_is_err_and c.from_residual.result c.from_residual.ensures.1 in
    let fault = c.in_err-open.field-0.0 in
    rw (p.1, p.2) (record {
      facts = [];
      seen = refl;
      so = not-begun c.args.manner.now c.args.clock c.args.sent.now c.args.received.now (sifting c.args.comparison.now [] c.args.aside.now) fault (first-sifted c.args.comparison.now c.args.aside.now c.requires.none c.requires.aside) c.requires.within
          (stops-as c.new-sending.result sides.Sent c.args.clock.sent_delay c.args.sent.now [] fault c.new-sending.ensures (c.in_err-open.ensures.fetched c.args.manner.now));
    })

pub returns-in_err-open-2-clause-told : goal.returns-in_err-open-2-clause-told
returns-in_err-open-2-clause-told g c =
    let p = err_from_is_err_and c.from_residual-in_err-open-2.result c.from_residual-in_err-open-2.ensures.1 in
    let fault = c.in_err-open-2.field-0.0 in
    rw (p.1, p.2) (record {
      facts = [];
      seen = refl;
      so = not-begun-behind c.args.manner.now c.args.clock c.args.sent.now c.args.received.now c.open.new.source c.open.new.self (sifting c.args.comparison.now [] c.args.aside.now) fault (first-sifted c.args.comparison.now c.args.aside.now c.requires.none c.requires.aside) c.requires.within
          (stands-as c.args.manner.now c.new-sending.result c.open.new.self sides.Sent c.args.clock.sent_delay c.args.sent.now c.open.new.source [] c.new-sending.ensures (c.in_ok-open.ensures.fetched c.args.manner.now))
          (stops-as c.new-receiving.result sides.Received c.args.clock.received_delay c.args.received.now [] fault c.new-receiving.ensures (c.in_err-open-2.ensures.fetched c.args.manner.now));
    })

pub turns-init : goal.turns-init
turns-init g c = record {
  facts = [];
  seen = refl;
  so = both-begun c.args.manner.now c.args.clock c.args.sent.now c.args.received.now c.open.new.source c.open-2.new.source c.open.new.self c.open-2.new.self (sifting c.args.comparison.now [] c.args.aside.now) (first-sifted c.args.comparison.now c.args.aside.now c.requires.none c.requires.aside) c.requires.within
      (stands-as c.args.manner.now c.new-sending.result c.open.new.self sides.Sent c.args.clock.sent_delay c.args.sent.now c.open.new.source [] c.new-sending.ensures (c.in_ok-open.ensures.fetched c.args.manner.now))
      (stands-as c.args.manner.now c.new-receiving.result c.open-2.new.self sides.Received c.args.clock.received_delay c.args.received.now c.open-2.new.source [] c.new-receiving.ensures (c.in_ok-open-2.ensures.fetched c.args.manner.now));
}

pub returns-in-Done-clause-told : goal.returns-in-Done-clause-told
returns-in-Done-clause-told g c = record {
  facts = c.turns.invariant.facts;
  seen = c.turns.invariant.seen;
  so = all-compared c.args.manner.now c.args.clock c.args.sent.now c.args.received.now c.turns.sent c.turns.received c.turns.sending c.turns.receiving (sifting c.turns.comparison c.turns.invariant.facts c.turns.aside) c.turns.invariant.so
      (sym c.turn_of.ensures ∙ c.in-Done.is);
}

pub returns-in-Done-clause-cut : goal.returns-in-Done-clause-cut
returns-in-Done-clause-cut g c =
    all-cut c.args.manner.now c.args.clock c.args.sent.now c.args.received.now c.turns.sent c.turns.received c.turns.sending c.turns.receiving (sifting c.turns.comparison c.turns.invariant.facts c.turns.aside) c.turns.invariant.so
    (sym c.turn_of.ensures ∙ c.in-Done.is)

pub send_next-requires-clause-may : goal.send_next-requires-clause-may
send_next-requires-clause-may g c =
    sent-fits c.args.manner.now c.args.clock c.args.sent.now c.args.received.now c.turns.sent c.turns.received c.turns.sending c.turns.receiving c.turns.comparison c.turns.invariant.facts c.turns.aside c.in-Sent.moment c.turns.invariant.so
    (sym c.turn_of.ensures ∙ c.in-Sent.is) c.requires.most_sent

pub returns-in_err-send_next-in-Sent-clause-told : goal.returns-in_err-send_next-in-Sent-clause-told
returns-in_err-send_next-in-Sent-clause-told g c =
    let p = err_from_is_err_and c.from_residual-in_err-send_next-in-Sent.result c.from_residual-in_err-send_next-in-Sent.ensures.1 in
    rw (p.1, p.2) (c.in_err-send_next-in-Sent.ensures.told c.args.clock c.args.sent.now c.args.received.now c.turns.received c.turns.receiving c.args.onlooker.now c.turns.invariant (sym c.turn_of.ensures ∙ c.in-Sent.is))

pub receive_next-requires-clause-may : goal.receive_next-requires-clause-may
receive_next-requires-clause-may g c =
    received-fits c.args.manner.now c.args.clock c.args.sent.now c.args.received.now c.turns.sent c.turns.received c.turns.sending c.turns.receiving c.turns.comparison c.turns.invariant.facts c.turns.aside c.in-Received.moment c.turns.invariant.so
    (sym c.turn_of.ensures ∙ c.in-Received.is) c.requires.most_received

pub returns-in_err-receive_next-in-Received-clause-told : goal.returns-in_err-receive_next-in-Received-clause-told
returns-in_err-receive_next-in-Received-clause-told g c =
    let p = err_from_is_err_and c.from_residual-in_err-receive_next-in-Received.result c.from_residual-in_err-receive_next-in-Received.ensures.1 in
    rw (p.1, p.2) (c.in_err-receive_next-in-Received.ensures.told c.args.clock c.args.sent.now c.args.received.now c.turns.sent c.turns.sending c.args.onlooker.now c.turns.invariant (sym c.turn_of.ensures ∙ c.in-Received.is))
