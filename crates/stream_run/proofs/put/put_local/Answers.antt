use Rattle.std.proofs.Common.{◌≡◌, ◌∙◌, ◌++◌, [], ℕ, ap, subst, sym, List, Option, Result, Ok, Err, unwrap_or}
use Rattle.std.proofs.lemmas.List.{take-append-drop}
use Rattle.wire.specs.Frame.{Frame}
use Rattle.wire.specs.declared.ether.reason.Reason.{Reason}
use Rattle.filter_db.specs.declared.place.Place.TheVariants.{Local}
use Rattle.endpoint_core.specs.Settings.{Settings}
use Rattle.endpoint_core.specs.Kept.{state_of}
use Rattle.endpoint_core.specs.Step.{sent_at}
use Rattle.capture_run.specs.Writing.{with_sent}
use Rattle.stream_run.specs.Stage.{Lead, StandAt}
use Rattle.stream_run.proofs.put.put_local.Goals as goal

-- the addresses, the tag and the body side by side are what is sent
octets_sent : (S : Settings) (vid port : ℕ) (f v : Frame) (addresses tag : List ℕ) (put_in : Option (List ℕ)) → addresses ≡ v.dst ++ v.src → tag ≡ unwrap_or put_in [] → v ≡ f
    → Ok ((f.dst ++ f.src) ++ (unwrap_or put_in [] ++ f.body)) ≡ (sent_at S vid f (Local port)).sent → Ok (addresses ++ (tag ++ v.body)) ≡ (sent_at S vid f (Local port)).sent
octets_sent S vid port f v addresses tag put_in front behind same is =
    ap (λ a. Ok (a ++ (tag ++ v.body))) front
    ∙ ap (λ t. Ok ((v.dst ++ v.src) ++ (t ++ v.body))) behind
    ∙ ap (λ (g : Frame). Ok ((g.dst ++ g.src) ++ (unwrap_or put_in [] ++ g.body))) same
    ∙ is

pub returns-in-Err-clause-sent : goal.returns-in-Err-clause-sent
returns-in-Err-clause-sent g c start o at =
    let is = octets_sent (state_of c.args.leaving.now.endpoint.now).bridges.settings c.args.leaving.now.came.now.vid c.args.port c.args.leaving.now.came.now.frame _ _ _ c.tag_at-tag.result (sym (take-append-drop 6 _)) c.octets_of-tag.ensures.value (c.frame.view_is ∙ c.frame-frame.ensures) c.tag_at-tag.ensures in
    subst (λ (s : Result (List ℕ) Reason). Lead {T = Unit {0}} start c.put_at.new.outputs o (with_sent c.args.leaving.now.moment o (record { place = Local c.args.port; sent = s })) (Err c.in-Err.target))
    is (c.in-Err.ensures start o at)

pub returns-clause-sent : goal.returns-clause-sent
returns-clause-sent g c start o at =
    let is = octets_sent (state_of c.args.leaving.now.endpoint.now).bridges.settings c.args.leaving.now.came.now.vid c.args.port c.args.leaving.now.came.now.frame _ _ _ c.tag_at-tag.result (sym (take-append-drop 6 _)) c.octets_of-tag.ensures.value (c.frame.view_is ∙ c.frame-frame.ensures) c.tag_at-tag.ensures in
    subst (λ (s : Result (List ℕ) Reason). StandAt start c.put_at.new.outputs (with_sent c.args.leaving.now.moment o (record { place = Local c.args.port; sent = s })))
    is (c.in_default.ensures start o at)
