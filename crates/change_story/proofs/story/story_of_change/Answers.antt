use Rattle.std.proofs.Common.{◌≡◌, ◌≤◌, ◌∙◌, ap, arith, sym, ℕ, List, [], ◌∷◌, ◌++◌, Option}
use Rattle.std.specs.Prelude.{codes, nat_le}
use Rattle.std.specs.String.{string_bytes}
use Rattle.std.proofs.lemmas.Bool.{cond-true, le-leb}
use Rattle.endpoint_core.specs.Change.{named}
use Rattle.endpoint_core.specs.Held.{state_at}
use Rattle.endpoint_core.specs.State.{State as Bridges, aged, fault}
use Rattle.endpoint_core.specs.declared.state.fault.ChangeFault.{ChangeFault}
use Rattle.endpoint_core.proofs.LaterLemmas.{held-later}
use Rattle.endpoint_core.specs.Event.{change_at}
use Rattle.endpoint_core.specs.Kept.{state_of}
use Rattle.endpoint_core.specs.Step.{answer}
use Rattle.decision_lines.specs.Lines.{answer_text, line, line_front, segment_text, reply_text}
use Rattle.change_story.specs.Story.{change_facts}
use Rattle.change_story.proofs.TextLemmas.{story-put}
use Rattle.change_story.proofs.story.story_of_change.Goals as goal

pub returns : goal.returns
returns c =
    let kept = c.args.endpoint.now in
    let s = state_of kept in
    let e = c.args.event.now in
    let t = e.moment in
    let change = c.args.change in
    let S = aged t s.bridges in
    let time : s.moment ≤ t = omega (arith, c.now.ensures, c.if-event-now.false) in
    let bridges : state_at t c.state.result.now ≡ S = ap (state_at t) c.state.ensures.value ∙ held-later kept.held kept.moment t time in
    let facts = c.in_ok-fault.ensures.text ∙ ap (λ (z : List ℕ). z ++ change_facts (state_at t c.state.result.now) change) c.new-text.ensures.bytes ∙ ap (λ (B : Bridges). change_facts B change) bridges in
    let why = c.in_ok-fault.ensures.fault ∙ ap (λ (B : Bridges). fault B change) bridges in
    let reply = c.in_ok-put_reply.ensures ∙ ap (λ (o : Option ChangeFault). string_bytes c.put_line_front.new.text ++ reply_text o) why in
    let front = c.in_ok-put_line_front.ensures ∙ ap (λ (o : Option ℕ). string_bytes c.put_facts.new.text ++ (line_front c.args.number e ++ (segment_text o ++ codes " "))) c.vid.ensures in
    ap (λ v. v.items) c.into_bytes.ensures.value
    ∙ story-put (change_facts S change) (line_front c.args.number e) (segment_text (named change) ++ codes " ") (reply_text (fault S change)) (10 ∷ [])
    (string_bytes c.put_facts.new.text) (string_bytes c.put_line_front.new.text) (string_bytes c.put_reply.new.text) (string_bytes c.put_end.new.text)
    facts front reply c.in_ok-put_end.ensures
    ∙ sym (cond-true (nat_le s.moment t) (change_facts S change ++ line c.args.number e (answer_text (named change) (answer s (change_at t change)))) [] (le-leb s.moment t time))
