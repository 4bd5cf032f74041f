use Rattle.std.proofs.Common.{◌≡◌, ◌∙◌, ◌++◌, ap, sym, subst, ℕ, List, Some, codes, map, append_assoc}
use Rattle.endpoint_core.specs.Kept.{state_of}
use Rattle.endpoint_core.specs.Step.{has_two_tunnels, sent_at}
use Rattle.decision_objects.specs.Objects.{end_text, event_text, number_text, outcomes_text}
use Rattle.decision_objects.specs.Writing.{Tells}
use Rattle.decision_objects.proofs.Growing.{front_to_end}
use Rattle.decision_objects.proofs.output.ObjectOutput.write_sent.Goals as goal

pub returns : goal.returns
returns g c =
    let S = (state_of c.args.endpoint.now).bridges.settings in
    let vid = c.args.came.now.vid in
    let o = c.args.origin.now in
    let outcomes = outcomes_text (has_two_tunnels S.overlay vid) (map (sent_at S vid c.args.came.now.frame) c.args.places.now) in
    let front = codes "{" ++ event_text o ++ number_text o ++ codes ",\"outcomes\":[" in
    let behind = codes "],\"result\":\"sent\"" in
    let last = end_text (Some vid) o.source in
    let tail : c.end_sent.new.line ≡ c.self-2.inside.line ++ (behind ++ last) =
    c.end_sent.ensures ∙ ap (λ (n : ℕ). c.self-2.inside.line ++ (behind ++ end_text (Some n) o.source)) c.segment.ensures in
    let text : (c.begin_sent.new.line ++ outcomes) ++ (behind ++ last) ≡ front ++ outcomes ++ behind ++ last =
    ap (λ (t : List ℕ). (t ++ outcomes) ++ (behind ++ last)) c.begin_sent.ensures.text ∙ sym (append_assoc (front ++ outcomes) behind last) in
    subst (λ (t : List ℕ). Tells c.args.self.now.told c.hand_on.new.self.told t) text
    (front_to_end c.args.self.now _ c.put_outcomes.new.self _ c.hand_on.new.self.told c.begin_sent.new.line c.end_sent.new.line outcomes (behind ++ last)
    c.self.view_is c.self-2.view_is c.put_outcomes.ensures.grows tail c.hand_on.ensures.told)
