use Rattle.std.proofs.Common.{◌≡◌, ◌∙◌, ◌++◌, ap, sym, Bool, length, map, take, get_or, add-one, arith}
use Rattle.filter_db.specs.declared.place.Place.TheVariants.{Local}
use Rattle.endpoint_core.specs.Kept.{state_of}
use Rattle.endpoint_core.specs.Step.{has_two_tunnels, sent_at}
use Rattle.decision_objects.specs.Objects.{gap, outcome_text, outcomes_text}
use Rattle.decision_objects.specs.Writing.{Stage}
use Rattle.decision_objects.proofs.Growing.{room_and_text}
use Rattle.decision_objects.proofs.Outcomes.{is_none, one_more}
use Rattle.decision_objects.proofs.output.ObjectOutput.put_outcomes.Goals as goal

pub loop-place-preserved : goal.loop-place-preserved
loop-place-preserved g c =
    let S = (state_of c.args.endpoint.now).bridges.settings in
    let two = has_two_tunnels S.overlay c.args.came.now.vid in
    let sent = sent_at S c.args.came.now.vid c.args.came.now.frame in
    let i = c.loop-place.place-index in
    let places = c.args.places.now in
    let so_far = outcomes_text two (map sent (take i places)) in
    let more = gap c.loop-place.is_first ++ outcome_text two (sent (get_or places i (Local 0))) in
    let line = c.put_sized.new.line in
    let text : line ≡ c.self.inside.line ++ more =
    c.put_sized.ensures.text
    ∙ ap (λ (b : Bool). c.self.inside.line ++ (gap c.loop-place.is_first ++ outcome_text b (sent (get_or places i (Local 0))))) c.has_two_tunnels-two_tunnels.ensures in
    record {
      grows =
          room_and_text c.args.self.now c.loop-place.self c.make_room.new.self _ line so_far more _ c.self.view_is c.loop-place.invariant.grows c.make_room.ensures.grows text
          (one_more two sent (Local 0) places i c.loop-place.is_first c.loop-place-test.true c.loop-place.invariant.first);
      first = sym (ap is_none (add-one i));
      room = omega (arith, c.put_sized.ensures.len, c.make_room.ensures.room, ap (λ (s : Stage). length s.line) c.self.view_is);
    }
