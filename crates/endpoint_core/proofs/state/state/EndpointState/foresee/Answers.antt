use Rattle.std.proofs.Common.{rules, sym, subst, IfOk, IsTrue, List, Result}
use Rattle.std.specs.List.{list_all}
use Rattle.wire.specs.declared.ether.reason.Reason.{Reason}
use Rattle.filter_db.specs.declared.place.Place.{Place}
use Rattle.endpoint_core.specs.Held.{Held, HeldIsSound, settings_of}
use Rattle.endpoint_core.specs.StateStep.{can_leave}
use Rattle.endpoint_core.proofs.ForesightLemmas.{foreseen-leaves}
use Rattle.endpoint_core.proofs.state.state.EndpointState.foresee.Goals as goal

pub returns-clause-verdict : goal.returns-clause-verdict
returns-clause-verdict c = search rules

pub returns-clause-leaves : goal.returns-clause-leaves
returns-clause-leaves c =
    let held = c.args.self.now in
    let sound : HeldIsSound held = subst (λ (h : Held). HeldIsSound h) c.self.view_is c.self.invariant in
    subst (λ (r : Result (List Place) Reason). IfOk r (λ places. IsTrue (list_all (can_leave (settings_of held) c.args.vid) places)))
    (sym (returns-clause-verdict c))
    (foreseen-leaves c.args.now c.args.vid c.args.from c.args.frame.now held sound c.requires.there c.requires.reached)
