use Rattle.std.proofs.Common.{◌∙◌, sym, ap, ◌+◌}
use Rattle.config_text.proofs.Separated.{joined_more, joined_unread, joined_last, joined_last_unread, joined_too_many}
use Rattle.config_text.proofs.parts.joined.Goals as goal

pub returns-in_err-read-in-Some : goal.returns-in_err-read-in-Some
returns-in_err-read-in-Some g c =
    rw c.from_residual.ensures (joined_unread g.P.Part.reads c.args.separator c.loop.parts.items c.loop.counter c.loop.rest.now _ c.loop-test.true c.loop.invariant.rest (c.in-Some.front.now, c.in-Some.back.now) c.in-Some.ensures.value (sym c.in_err-read-in-Some.ensures))

pub returns-in_err-read-in-None : goal.returns-in_err-read-in-None
returns-in_err-read-in-None g c =
    rw c.from_residual-in_err-read-in-None.ensures (joined_last_unread g.P.Part.reads c.args.separator c.loop.parts.items c.loop.counter c.loop.rest.now _ c.loop-test.true c.loop.invariant.rest c.in-None.ensures.value (sym c.in_err-read-in-None.ensures))

pub returns-in-None : goal.returns-in-None
returns-in-None g c =
    rw c.push-in-None.ensures.items (joined_last g.P.Part.reads c.args.separator c.loop.parts.items c.loop.counter c.loop.rest.now _ c.loop-test.true c.loop.invariant.rest c.in_ok-read-in-None.field-0 c.in-None.ensures.value (sym c.in_ok-read-in-None.ensures))

pub loop-preserved : goal.loop-preserved
loop-preserved g c = record {
  count = c.push.ensures.len ∙ ap (λ n. n + 1) c.loop.invariant.count;
  rest = rw c.push.ensures.items (joined_more g.P.Part.reads c.args.separator c.loop.parts.items c.loop.counter c.loop.rest.now _ c.loop-test.true c.loop.invariant.rest (c.in-Some.front.now, c.in-Some.back.now) c.in_ok-read-in-Some.field-0 c.in-Some.ensures.value (sym c.in_ok-read-in-Some.ensures));
}

pub returns : goal.returns
returns g c = joined_too_many g.P.Part.reads c.args.separator c.loop.parts.items c.loop.counter c.loop.rest.now _ c.loop-test.false c.loop.invariant.rest
