use Rattle.std.proofs.Common.{rules, ◌<◌, ◌∙◌, ◌&&◌, Bool, length, sym, ap}
use Rattle.wire.specs.GeneveOptions.{options_in}
use Rattle.wire.specs.GeneveSeen.{split_seen}
use Rattle.wire.proofs.WalkLemmas.{told, told-first, told-step, told-ended, told-cut}
use Rattle.wire.proofs.geneve.view.check_options.Goals as goal

pub loop-option-preserved : goal.loop-option-preserved
loop-option-preserved c =
    let known = c.args.known.now in
    let accepted = c.loop-option.is_accepted in
    ap (λ (b : Bool). told known (accepted && b) (options_in c.in-Some.rest.now)) c.accepts-is_accepted.ensures
    ∙ sym (told-step known accepted c.loop-option.left.now (split_seen (c.in-Some.option, c.in-Some.rest)) (sym c.in-Some.ensures))
    ∙ c.loop-option.invariant

pub returns-then-not-is_empty : goal.returns-then-not-is_empty
returns-then-not-is_empty c =
    let left = c.loop-option.left.now in
    let some : 0 < length left = search rules in
    sym (told-cut c.args.known.now c.loop-option.is_accepted left (sym c.in_default.ensures) some)
    ∙ c.loop-option.invariant ∙ told-first c.args.known.now c.args.text.now

pub returns-then-not-is_accepted : goal.returns-then-not-is_accepted
returns-then-not-is_accepted c = told-ended c.args.known.now c.loop-option.is_accepted c.loop-option.left.now c.args.text.now _ (search rules) c.if-not-is_accepted.true c.loop-option.invariant

pub returns-else-not-is_accepted : goal.returns-else-not-is_accepted
returns-else-not-is_accepted c = told-ended c.args.known.now c.loop-option.is_accepted c.loop-option.left.now c.args.text.now _ (search rules) c.if-not-is_accepted.false c.loop-option.invariant
