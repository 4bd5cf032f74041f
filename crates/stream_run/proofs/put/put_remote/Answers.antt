use Rattle.std.proofs.Common.{◌≡◌, ◌∙◌, ◌++◌, [], ap, sym, subst, ℕ, List, Result, Ok, Err}
use Rattle.std.proofs.lemmas.List.{take-append-drop}
use Rattle.wire.specs.Frame.{Frame}
use Rattle.wire.specs.declared.ether.reason.Reason.{Reason}
use Rattle.encapsulate.specs.Emission.{around, text}
use Rattle.encapsulate.specs.Remote.{text_behind}
use Rattle.filter_db.specs.declared.place.Place.TheVariants.{Remote}
use Rattle.endpoint_core.specs.Kept.{state_of}
use Rattle.endpoint_core.specs.Step.{sent_at}
use Rattle.capture_run.specs.Writing.{with_sent}
use Rattle.stream_run.specs.Stage.{Lead, StandAt}
use Rattle.stream_run.proofs.put.put_remote.Goals as goal
use Rattle.stream_run.proofs.put.put_remote.Goals.{in-Ok+in_default, in-Err}

-- a head, the addresses and the body of a frame side by side are the packet that is sent
packet_sent : (items head addresses : List ℕ) (f v : Frame) (sent : Result (List ℕ) Reason) → head ≡ items → addresses ≡ v.dst ++ v.src → v ≡ f
    → Ok (text (around items [] f)) ≡ sent → Ok (head ++ (addresses ++ ([] ++ v.body))) ≡ sent
packet_sent items head addresses f v sent lent front same is =
    ap (λ h. Ok (h ++ (addresses ++ v.body))) lent
    ∙ ap (λ a. Ok (items ++ (a ++ v.body))) front
    ∙ ap (λ (g : Frame). Ok (items ++ ((g.dst ++ g.src) ++ g.body))) same
    ∙ is

pub returns-in-Err-put_out-clause-sent : goal.returns-in-Err-put_out-clause-sent
returns-in-Err-put_out-clause-sent g c start o at =
    let S = (state_of c.args.leaving.now.endpoint.now).bridges.settings in
    let f = c.args.leaving.now.came.now.frame in
    let whole = sent_at S c.args.leaving.now.came.now.vid f (Remote c.args.peer.kind c.args.peer.addr) in
    let is = packet_sent c.put_head.new.head.items _ _ f _ whole.sent c.as_slice-head.ensures.value (sym (take-append-drop 6 _)) (c.frame.view_is ∙ c.frame-frame.ensures)
    (ap (text_behind c.put_head.new.head.items f) (sym c.in-Ok.is) ∙ c.put_head.ensures) in
    subst (λ (s : Result (List ℕ) Reason). Lead {T = Unit {0}} start c.put_out.new.outputs o (with_sent c.args.leaving.now.moment o (record { place = Remote c.args.peer.kind c.args.peer.addr; sent = s })) (Err c.in-Err-put_out.target))
    is (c.in-Err-put_out.ensures start o at)

pub returns-clause-sent : goal.returns-clause-sent
returns-clause-sent g c start o at =
    let S = (state_of c.args.leaving.now.endpoint.now).bridges.settings in
    let f = c.args.leaving.now.came.now.frame in
    let whole = sent_at S c.args.leaving.now.came.now.vid f (Remote c.args.peer.kind c.args.peer.addr) in
    elim c.match-put_head.branch [
      | in-Ok+in_default w ↦
          let is = packet_sent c.put_head.new.head.items _ _ f _ whole.sent w.as_slice-head.ensures.value (sym (take-append-drop 6 _)) (w.frame.view_is ∙ w.frame-frame.ensures)
          (ap (text_behind c.put_head.new.head.items f) (sym w.in-Ok.is) ∙ c.put_head.ensures) in
          rw w.outputs-is (subst (λ (s : Result (List ℕ) Reason). StandAt start w.put_out.new.outputs (with_sent c.args.leaving.now.moment o (record { place = Remote c.args.peer.kind c.args.peer.addr; sent = s })))
          is (w.in_default.ensures start o at))
      | in-Err w ↦
          let is : Err w.in-Err.reason ≡ whole.sent = ap (text_behind c.put_head.new.head.items f) (sym w.in-Err.is) ∙ c.put_head.ensures in
          rw w.outputs-is (subst (λ (s : Result (List ℕ) Reason). StandAt start c.args.outputs.now (with_sent c.args.leaving.now.moment o (record { place = Remote c.args.peer.kind c.args.peer.addr; sent = s }))) is at)
    ]
