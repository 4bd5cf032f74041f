use Rattle.std.proofs.Common.{◌≡◌, ◌∙◌, ap, sym, subst, refl, [], ◌∷◌, ◌++◌, Some, None}
use Rattle.std.specs.Prelude.{Result}
use Rattle.std.specs.String.{string_bytes}
use Rattle.wire.specs.First.{fault_of}
use Rattle.endpoint_core.specs.declared.state.fault.ChangeFault.{ChangeFault}
use Rattle.endpoint_core.specs.Step.{Replied}
use Rattle.run_counts.specs.Keeping.{Keeping, totals_in}
use Rattle.run_counts.specs.Totals.{totals_of}
use Rattle.run_counts.proofs.Tallies.{hears_by, no_flow_more, no_refusal_more}
use Rattle.run_counts.proofs.run_counts.RunCounts.count_reply.Goals as goal

pub returns-in-Err : goal.returns-in-Err
returns-in-Err c es given is =
    let i = c.self.inside in
    let old : Keeping = record { came = i.came; left = i.left; refused = i.refused; partial = i.partial; text = string_bytes i.text; is_lost = i.is_lost } in
    let new : Keeping = record { came = i.came; left = i.left; refused = c.add_refusal.new.refusals; partial = i.partial; text = string_bytes i.text; is_lost = i.is_lost } in
    subst (λ (r : Result (Unit {0}) ChangeFault). totals_in new ≡ totals_of es (given ++ Replied (fault_of r) ∷ [])) (sym c.in-Err.is)
    (hears_by old new (Replied (Some c.in-Err.fault)) refl (no_flow_more i.left) c.add_refusal.ensures refl es given (ap totals_in c.self.view_is ∙ is))

pub returns-in_default : goal.returns-in_default
returns-in_default c es given is =
    let now : Keeping = c.args.self.now in
    subst (λ (r : Result (Unit {0}) ChangeFault). totals_in now ≡ totals_of es (given ++ Replied (fault_of r) ∷ [])) (sym c.in_default.is)
    (hears_by now now (Replied None) refl (no_flow_more now.left) (no_refusal_more now.refused) refl es given is)
