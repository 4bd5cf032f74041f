use Rattle.std.proofs.Common.{◌<◌, ◌∙◌, ◌++◌, [], ◌∷◌, length, take, sym, ap}
use Rattle.std.proofs.lemmas.List.{take_more}
use Rattle.overlay.specs.Ports.{Ports, with_rule, told}
use Rattle.overlay.proofs.PortsLemmas.{told-push}
use Rattle.overlay.proofs.ports.port_set.PortSet.open.Goals as goal

pub loop-rule-preserved : goal.loop-rule-preserved
loop-rule-preserved c =
    let ports = c.args.ports.now in
    let rules = c.args.members.now in
    let i = c.loop-rule.rule-index in
    let rule = c.rule-item.result in
    let lt : i < length rules = c.loop-rule-test.true in
    c.add_rule.ensures
    ∙ ap (λ (s : Ports). with_rule s rule) c.loop-rule.invariant
    ∙ told-push ports (take i rules) rule
    ∙ ap (λ r. told ports (take i rules ++ r ∷ [])) c.rule-item.is
    ∙ ap (told ports) (sym (take_more rules i rule lt))
