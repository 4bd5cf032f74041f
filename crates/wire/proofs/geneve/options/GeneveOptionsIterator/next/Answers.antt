use Rattle.std.proofs.Common.{arith, ◌<◌, [], length, sym, ap, ◌∙◌}
use Rattle.std.specs.Prelude.{unwrap_or}
use Rattle.wire.specs.GeneveOptions.{options_in}
use Rattle.wire.specs.GeneveSeen.{split_seen}
use Rattle.wire.proofs.OptionsLemmas.{options_in-next}
use Rattle.wire.proofs.geneve.options.GeneveOptionsIterator.next.Goals as goal

-- each answer begins with the option that is handed out and those behind it
pub invariant_of-self : goal.invariant_of-self
invariant_of-self c =
    let handed = options_in-next c.self.inside.text.now (split_seen (c.in_ok-option.option, c.in_ok-option.rest)) (sym c.in_ok-option.ensures) c.self.invariant in
    handed.0

pub returns-clause-steps : goal.returns-clause-steps
returns-clause-steps c =
    let handed = options_in-next c.self.inside.text.now (split_seen (c.in_ok-option.option, c.in_ok-option.rest)) (sym c.in_ok-option.ensures) c.self.invariant in
    sym c.self.view_is ∙ handed.1

pub returns-clause-goes : goal.returns-clause-goes
returns-clause-goes c =
    let handed = options_in-next c.self.inside.text.now (split_seen (c.in_ok-option.option, c.in_ok-option.rest)) (sym c.in_ok-option.ensures) c.self.invariant in
    let shorter : length (unwrap_or (options_in c.in_ok-option.rest.now) []) < length c.args.self.now = omega (arith, ap length (sym c.self.view_is ∙ handed.1)) in
    record { on = λ _. (tt, tt, shorter); keeps = tt; rests = λ _. tt }
