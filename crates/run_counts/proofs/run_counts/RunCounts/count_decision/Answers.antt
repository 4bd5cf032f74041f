use Rattle.std.proofs.Common.{◌≡◌, ◌∙◌, Ok, Err, ap, sym, subst, refl, [], ◌∷◌, ◌++◌}
use Rattle.std.specs.String.{string_bytes}
use Rattle.endpoint_core.specs.Forwarding.{Forwarding, decision_of}
use Rattle.endpoint_core.specs.Kept.{state_of}
use Rattle.endpoint_core.specs.Step.{Decided}
use Rattle.run_counts.specs.Keeping.{Keeping, totals_in}
use Rattle.run_counts.specs.Totals.{totals_of}
use Rattle.run_counts.proofs.Tallies.{hears_by, no_flow_more, no_refusal_more}
use Rattle.run_counts.proofs.run_counts.RunCounts.count_decision.Goals as goal

pub returns-in-Ok : goal.returns-in-Ok
returns-in-Ok c es given is =
    let i = c.self.inside in
    let S = (state_of c.args.endpoint.now).bridges.settings in
    let old : Keeping = record { came = i.came; left = i.left; refused = i.refused; partial = i.partial; text = string_bytes i.text; is_lost = i.is_lost } in
    let new : Keeping = record { came = i.came; left = c.add_leaving.new.flows; refused = i.refused; partial = i.partial; text = string_bytes i.text; is_lost = i.is_lost } in
    subst (λ (k : Forwarding). totals_in new ≡ totals_of es (given ++ Decided (decision_of S k c.args.places.now) ∷ [])) (sym c.in-Ok.is)
    (hears_by old new (Decided (decision_of S (Ok c.in-Ok.came) c.args.places.now)) refl c.add_leaving.ensures (no_refusal_more i.refused) refl es given (ap totals_in c.self.view_is ∙ is))

pub returns-in_default : goal.returns-in_default
returns-in_default c es given is =
    let S = (state_of c.args.endpoint.now).bridges.settings in
    let now : Keeping = c.args.self.now in
    subst (λ (k : Forwarding). totals_in now ≡ totals_of es (given ++ Decided (decision_of S k c.args.places.now) ∷ [])) (sym c.in_default.is)
    (hears_by now now (Decided (decision_of S (Err c.in_default.field-0) c.args.places.now)) refl (no_flow_more now.left) (no_refusal_more now.refused) refl es given is)
