use Rattle.std.proofs.Common.{◌∙◌, ap, sym, List, Option, Some, map}
use Rattle.std.specs.List.{list_any}
use Rattle.filter_db.specs.declared.place.Place.{Place}
use Rattle.endpoint_core.specs.Decision.{Decision}
use Rattle.endpoint_core.specs.Forwarding.{decision_of}
use Rattle.endpoint_core.specs.Kept.{state_of}
use Rattle.run_reports.specs.Sought.{is_new_reason, reason_met}
use Rattle.run_reports.proofs.Seeking.{first_by_marks, met_by_marks, reasons_without}
use Rattle.run_reports.proofs.sought.meet_open.Goals as goal

pub returns-in-None-clause-first : goal.returns-in-None-clause-first
returns-in-None-clause-first c = sym ((reasons_without c.args.reasons.now).0) ∙ ap (λ (d : Option Decision). list_any (is_new_reason d) c.args.reasons.now) c.in-None.ensures.decision

pub returns-in-None-clause-met : goal.returns-in-None-clause-met
returns-in-None-clause-met c = sym ((reasons_without c.args.reasons.now).1) ∙ ap (λ (d : Option Decision). map (reason_met d) c.args.reasons.now) c.in-None.ensures.decision

pub returns-in-Some-clause-first : goal.returns-in-Some-clause-first
returns-in-Some-clause-first c =
    let S = (state_of c.args.endpoint.now).bridges.settings in
    c.mark_reasons.ensures.first
    ∙ first_by_marks c.mark_causes.new.causes (decision_of S c.in-Some.forwarding c.as_slice.result.now) c.args.reasons.now c.mark_causes.ensures
    ∙ ap (λ (ps : List Place). list_any (is_new_reason (Some (decision_of S c.in-Some.forwarding ps))) c.args.reasons.now) c.as_slice.ensures.value
    ∙ ap (λ (d : Option Decision). list_any (is_new_reason d) c.args.reasons.now) c.in-Some.ensures.decision

pub returns-in-Some-clause-met : goal.returns-in-Some-clause-met
returns-in-Some-clause-met c =
    let S = (state_of c.args.endpoint.now).bridges.settings in
    c.mark_reasons.ensures.met
    ∙ met_by_marks c.mark_causes.new.causes (decision_of S c.in-Some.forwarding c.as_slice.result.now) c.args.reasons.now c.mark_causes.ensures
    ∙ ap (λ (ps : List Place). map (reason_met (Some (decision_of S c.in-Some.forwarding ps))) c.args.reasons.now) c.as_slice.ensures.value
    ∙ ap (λ (d : Option Decision). map (reason_met d) c.args.reasons.now) c.in-Some.ensures.decision
