use Rattle.std.proofs.Common.{map}
use Rattle.std.proofs.lemmas.List.{map-append}
use Rattle.text_advice.proofs.Splits.{split_kept, split_done}
use Rattle.text_advice.proofs.split.split.Goals as goal

pub loop-front-preserved : goal.loop-front-preserved
loop-front-preserved c =
    rw (c.in_ok-push.ensures.items, map-append) (split_kept c.args.separator (map (λ p. p.now) c.loop-front.parts.items) c.loop-front.rest.now c.args.text.now (c.in-Some.front.now, c.in-Some.behind.now) c.in-Some.ensures.value c.loop-front.invariant)

pub returns : goal.returns
returns c =
    rw (c.in_ok-push-2.ensures.items, map-append) (split_done c.args.separator (map (λ p. p.now) c.loop-front.parts.items) c.loop-front.rest.now c.args.text.now c.in_default.ensures.value c.loop-front.invariant)
