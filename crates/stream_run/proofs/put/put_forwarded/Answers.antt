use Rattle.std.proofs.Common.{◌≡◌, ◌∙◌, ◌++◌, ◌∷◌, [], refl, ap, subst, map, ℕ, List, None, Some, Ok}
use Rattle.std.specs.Prelude.{codes}
use Rattle.filter_db.specs.declared.place.Place.{Place}
use Rattle.endpoint_core.specs.Decision.{Sent}
use Rattle.endpoint_core.specs.Kept.{state_of}
use Rattle.endpoint_core.specs.Step.{Decided, by_verdict, has_two_tunnels, sent_at}
use Rattle.endpoint_core.specs.Text.{outcomes_text}
use Rattle.decision_lines.specs.Lines.{line_front, segment_text}
use Rattle.capture_run.specs.Outputs.{Outputs}
use Rattle.capture_run.specs.Writing.{with_all_sent, with_line}
use Rattle.stream_run.specs.Stage.{Drains, Lead, StandAt}
use Rattle.stream_run.specs.Amidst.{SendsInOrder}
use Rattle.stream_run.proofs.Amidst.{at_outlet, put_at_line}
use Rattle.stream_run.proofs.Lining.{pieces}
use Rattle.stream_run.proofs.Standing.{front_all, front_line, fronts_self, lead_behind, lines_stay, no_line, wider}
use Rattle.stream_run.proofs.put.put_forwarded.Given.{Over}
use Rattle.stream_run.proofs.put.put_forwarded.Goals.{After-put_line}
use Rattle.stream_run.proofs.put.put_forwarded.Goals as goal

pub returns-in-Err-clause-outputs : goal.returns-in-Err-clause-outputs
returns-in-Err-clause-outputs g c start o at =
    let f = sent_at (state_of c.args.endpoint.now).bridges.settings c.args.came.now.vid c.args.came.now.frame in
    let sent = with_all_sent c.args.event.now.moment o (map f c.args.scratch.now.places.items) in
    let new = c.put_places.new.outputs in
    let lead = subst (λ (ps : List Place). Lead start new o (with_all_sent c.args.event.now.moment o (map f ps)) c.put_places.result) c.as_slice.ensures.value
    (c.put_places.ensures.sent start o at) in
    let failed = rw c.in-Err.is at lead in (
      wider start new o o sent (with_line sent _) failed.0 (fronts_self o) (front_line sent _)
          (no_line start new o o sent (with_line sent _) failed.0 refl (lines_stay c.args.event.now.moment o (map f c.args.scratch.now.places.items))),
      failed.1,
    )

pub returns-in-Err-clause-order : goal.returns-in-Err-clause-order
returns-in-Err-clause-order g c start o at =
    let S = (state_of c.args.endpoint.now).bridges.settings in
    let f = sent_at S c.args.came.now.vid c.args.came.now.frame in
    let new = c.put_places.new.outputs in
    let answer = Decided (by_verdict S c.args.came.now (Ok c.args.scratch.now.places.items)) in
    let sends = subst (λ (ps : List Place). SendsInOrder start new c.args.event.now.moment o (map f ps) c.put_places.result) c.as_slice.ensures.value
    (c.put_places.ensures.order start o at) in
    let failed = rw c.in-Err.is at sends in
    at_outlet c.args.scratch.now.number None o c.args.event.now answer start new failed.0 failed.2 failed.1 failed.3 failed.4

-- the line behind the emissions
module _ (g : Over) (c : After-put_line g) where
  abbrev outcomes : List Sent
  outcomes = map (sent_at (state_of c.args.endpoint.now).bridges.settings c.args.came.now.vid c.args.came.now.frame) c.args.scratch.now.places.items

  abbrev emitted : Outputs → Outputs
  emitted o = with_all_sent c.args.event.now.moment o outcomes

  abbrev text : List ℕ
  text =
      line_front c.args.scratch.now.number c.args.event.now
      ++ ((segment_text (Some c.args.came.now.vid) ++ codes " " ++ outcomes_text (has_two_tunnels (state_of c.args.endpoint.now).bridges.settings.overlay c.args.came.now.vid) outcomes) ++ 10 ∷ [])

  text_is : c.text.result.now ≡ text
  text_is =
      let S = (state_of c.args.endpoint.now).bridges.settings in
      let f = sent_at S c.args.came.now.vid c.args.came.now.frame in
      let front = line_front c.args.scratch.now.number c.args.event.now in
      let seg = segment_text (Some c.args.came.now.vid) in
      let two = has_two_tunnels S.overlay c.args.came.now.vid in
      c.text.ensures.value ∙ c.end.ensures
      ∙ ap (λ l. l ++ 10 ∷ []) (c.in_default.ensures.line.0 ∙ ap (λ (ps : List Place). c.begin.new.self ++ outcomes_text two (map f ps)) c.as_slice.ensures.value)
      ∙ ap (λ l. (l ++ outcomes_text two outcomes) ++ 10 ∷ []) (c.begin.ensures.text ∙ ap (λ s. front ++ (segment_text (Some s) ++ codes " ")) c.segment.ensures)
      ∙ pieces front seg (codes " ") (outcomes_text two outcomes) (10 ∷ [])

  line_put : (start : Drains) (o : Outputs) → StandAt start c.args.outputs.now o
      → Lead {T = Unit {0}} start c.put_line.new.outputs (emitted o) (with_line (emitted o) text) c.put_line.result
  line_put start o at =
      let f = sent_at (state_of c.args.endpoint.now).bridges.settings c.args.came.now.vid c.args.came.now.frame in
      let before = c.put_places.new.outputs in
      let new = c.put_line.new.outputs in
      let stood = subst (λ (ps : List Place). StandAt start before (with_all_sent c.args.event.now.moment o (map f ps))) c.as_slice.ensures.value
      (c.in_default.ensures.sent start o at) in
      let lead : Lead {T = Unit {0}} start new (emitted o) (with_line (emitted o) c.text.result.now) c.put_line.result = c.put_line.ensures.line start (emitted o) stood in
      subst (λ l. Lead {T = Unit {0}} start new (emitted o) (with_line (emitted o) l) c.put_line.result) text_is lead

pub returns-clause-order : goal.returns-clause-order
returns-clause-order g c start o at =
    let w = (goal.at.returns-clause-order g c).After-put_line in
    let answer = Decided (by_verdict (state_of c.args.endpoint.now).bridges.settings c.args.came.now (Ok c.args.scratch.now.places.items)) in
    put_at_line c.args.scratch.now.number None o c.args.event.now answer start _ c.put_line.result (line_put g w start o at)

pub returns-clause-outputs : goal.returns-clause-outputs
returns-clause-outputs g c start o at =
    let w = (goal.at.returns-clause-outputs g c).After-put_line in
    lead_behind {T = Unit {0}} start _ o (emitted g w o) (with_line (emitted g w o) (text g w)) c.put_line.result (front_all c.args.event.now.moment o (outcomes g w)) (record { ports = refl; underlay = refl })
    (line_put g w start o at)
