use Rattle.std.proofs.Common.{◌≤◌, List, sym, ap, ◌∙◌, subst, refl, rules}
use Rattle.endpoint_core.specs.Held.{settings_of}
use Rattle.filter_db.specs.declared.place.Place.{Place}
use Rattle.endpoint_core.specs.Cells.{count_in}
use Rattle.endpoint_core.specs.Counts.{counted}
use Rattle.endpoint_core.specs.Forwarding.{decision_of}
use Rattle.endpoint_core.specs.Kept.{Kept}
use Rattle.endpoint_core.proofs.StepsLemmas.{decided-then}
use Rattle.endpoint_core.proofs.endpoint.Endpoint.take.Goals as goal

pub returns : goal.returns
returns c =
    let later = subst (λ (k : Kept). k.moment ≤ c.args.now) (sym c.self.view_is) c.requires.moment in
    let tallied = c.tally.ensures ∙ ap (λ (ps : List Place). counted (count_in c.self.inside.counts) (decision_of (settings_of c.decide.new.state) c.decide.new.forwarding ps)) c.as_slice.ensures.value in
    let then = decided-then c.self.inside.state c.decide.new.state c.self.inside.counts c.tally.new.self c.self.inside.moment c.args.now (decision_of (settings_of c.decide.new.state) c.decide.new.forwarding c.decide.new.places.items) c.args.forwarding.now _ later refl c.decide.ensures.decision c.decide.ensures.after tallied in
    record {
      answer = rw (← c.self.view_is) then.0;
      after = rw (← c.self.view_is) then.1;
      there = search rules;
      short = search rules;
      leave = search rules;
      empty = search rules;
      came = search rules;
      calls_stay_counted = rw (← c.self.view_is) c.decide.ensures.calls_stay_counted;
      calls = rw (← c.self.view_is) c.decide.ensures.calls;
      comparisons_stay_counted = rw (← c.self.view_is) c.decide.ensures.comparisons_stay_counted;
      compared = rw (← c.self.view_is) c.decide.ensures.compared;
    }
