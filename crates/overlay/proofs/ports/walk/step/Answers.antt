use Rattle.std.proofs.Common.{◌≡◌, ◌<◌, ◌≤◌, ◌^◌, arith}
use Rattle.overlay.proofs.WalkLemmas.{lowest-above, lowest-member, lowest-least, lowest-told}
use Rattle.overlay.proofs.ports.walk.step.Goals as goal

pub returns-then-port-ports-clause-none : goal.returns-then-port-ports-clause-none
returns-then-port-ports-clause-none c p above within =
    let at = c.refilled-at.result in
    let fits : at.rest < 2 ^ 64 = omega arith in
    lowest-least c.args.words.now c.args.vid at c.refilled-at.ensures.at fits (λ e. omega (arith, e, c.if-at-eq0.false)) p (omega (arith, above, c.refilled-at.ensures.after)) (omega (arith, within, c.if-port-ports.true))

pub returns-clause-at : goal.returns-clause-at
returns-clause-at c =
    let at = c.refilled-at.result in
    let fits : at.rest < 2 ^ 64 = omega arith in
    (lowest-told c.args.words.now c.args.vid at c.refilled-at.ensures.at fits (λ e. omega (arith, e, c.if-at-eq0.false)), c.refilled-at.ensures.column)

pub returns-clause-found : goal.returns-clause-found
returns-clause-found c =
    let at = c.refilled-at.result in
    let fits : at.rest < 2 ^ 64 = omega arith in (
      omega (arith, c.refilled-at.ensures.after, lowest-above c.args.words.now c.args.vid at c.refilled-at.ensures.at fits (λ e. omega (arith, e, c.if-at-eq0.false))),
      omega (arith, c.if-port-ports.false),
      lowest-member c.args.words.now c.args.vid at c.refilled-at.ensures.at fits (λ e. omega (arith, e, c.if-at-eq0.false)),
    )

pub returns-clause-least : goal.returns-clause-least
returns-clause-least c p above below =
    let at = c.refilled-at.result in
    let fits : at.rest < 2 ^ 64 = omega arith in
    lowest-least c.args.words.now c.args.vid at c.refilled-at.ensures.at fits (λ e. omega (arith, e, c.if-at-eq0.false)) p (omega (arith, above, c.refilled-at.ensures.after)) below
