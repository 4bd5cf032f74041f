use Rattle.std.proofs.Common.{◌≡◌, ◌∙◌, ◌+◌, ◌*◌, ap, length, arith, ℕ}
use Rattle.wire.specs.Sum.{total, sent_of, complement}
use Rattle.wire.specs.Frame.{Frame}
use Rattle.wire.proofs.outer.head.udp_sum.Goals as goal

pub returns : goal.returns
returns c =
    let body : length c.frame.inside.body.now ≡ length c.args.frame.now.body = ap (λ (g : Frame). length g.body) c.frame.view_is in
    let is : c.args.fixed + c.words.result + 2 * (28 + length c.frame.inside.body.now) + c.from.result + c.from-2.result ≡ c.args.fixed + total c.args.dst.now + 2 * (28 + length c.args.frame.now.body) + c.args.sport + c.in-Some.sum =
    omega (arith, c.words.ensures.sum, body, c.from.ensures, c.from-2.ensures) in
    rw c.in-Some.is (c.sent_sum.ensures ∙ ap (λ (n : ℕ). sent_of (complement n)) is)
