use Rattle.std.proofs.Common.{◌∙◌, sym, ap}
use Rattle.std.proofs.lemmas.Bool.{cond-false}
use Rattle.std.specs.FinMap.{empty}
use Rattle.overlay.specs.Ports.{Ports, has_segment, members_of}
use Rattle.overlay.specs.PortsRules.{with_members}
use Rattle.overlay.proofs.PortsLemmas.{has-with, ruled}
use Rattle.overlay.proofs.ports.port_set.PortSet.add_rule.Goals as goal

pub put-requires-clause-there : goal.put-requires-clause-there
put-requires-clause-there c =
    let vid = c.args.rule.now.vid in
    ap (λ (t : Ports). has_segment t vid) c.add_vid.ensures ∙ has-with c.args.self.now vid empty

pub put-requires-then-not-has-clause-there : goal.put-requires-then-not-has-clause-there
put-requires-then-not-has-clause-there c =
    let vid = c.args.rule.now.vid in
    ap (λ (t : Ports). has_segment t vid) c.put.ensures ∙ has-with c.add_vid.new.self vid _

pub returns-then-not-has : goal.returns-then-not-has
returns-then-not-has c =
    let s = c.args.self.now in
    let rule = c.args.rule.now in
    ruled s c.add_vid.new.self c.put.new.self c.put-then-not-has.new.self rule c.as_slice.result.now c.as_slice-then-not-has.result.now
    c.as_slice.ensures.value c.as_slice-then-not-has.ensures.value c.add_vid.ensures c.put.ensures c.put-then-not-has.ensures
    ∙ sym (cond-false (has_segment s rule.vid) s (with_members s rule.vid (members_of rule)) (sym c.has.ensures ∙ c.if-not-has.true))
