use Rattle.std.proofs.Common.{◌≡◌, ◌+◌, ◌++◌, ◌∷◌, [], refl, subst, arith, drop, cond, map, slice_index_or}
use Rattle.std.proofs.lemmas.List.{drop_all}
use Rattle.filter_db.specs.declared.place.Place.TheVariants.{Local}
use Rattle.endpoint_core.specs.Kept.{state_of}
use Rattle.endpoint_core.specs.Step.{has_two_tunnels, sent_at}
use Rattle.endpoint_core.specs.Text.{further_text, outcomes_text}
use Rattle.capture_run.specs.Writing.{with_all_sent}
use Rattle.capture_run.proofs.Changes.{left_is}
use Rattle.stream_run.specs.Stage.{StandBetween}
use Rattle.stream_run.proofs.Lining.{text_more}
use Rattle.stream_run.proofs.Standing.{PutSoFar, put_end, put_failed, put_more, put_next, put_none}
use Rattle.stream_run.proofs.put.put_places.Goals as goal

pub returns-in-Err-clause-sent : goal.returns-in-Err-clause-sent
returns-in-Err-clause-sent g c start o at =
    let f = sent_at (state_of c.args.leaving.now.endpoint.now).bridges.settings c.args.leaving.now.came.now.vid c.args.leaving.now.came.now.frame in
    let i = c.loop-place.place-index in
    let p = slice_index_or c.args.places.now i (Local 0) in
    let left = left_is c.args.places.now i (Local 0) c.loop-place-test.true in
    let so_far = c.loop-place.invariant.sent start o at in
    let here = subst (λ l. PutSoFar c.args.leaving.now.moment start c.loop-place.outputs o (map f l) (map f c.args.places.now)) left so_far in
    let lead = c.in-Err.ensures.sent start here.mid here.at in (
      put_failed c.args.leaving.now.moment start c.loop-place.outputs c.put_place.new.outputs o (f p) (map f (drop (i + 1) c.args.places.now)) (map f c.args.places.now) here lead.0,
      lead.1,
    )

pub loop-place-init : goal.loop-place-init
loop-place-init g c =
    let f = sent_at (state_of c.args.leaving.now.endpoint.now).bridges.settings c.args.leaving.now.came.now.vid c.args.leaving.now.came.now.frame in
    record {
      sent = λ start o at. put_none c.args.leaving.now.moment start c.args.outputs.now o (map f c.args.places.now) at;
      text = refl;
      room = omega arith;
    }

pub returns-in-Err-clause-order : goal.returns-in-Err-clause-order
returns-in-Err-clause-order g c start o at =
    let f = sent_at (state_of c.args.leaving.now.endpoint.now).bridges.settings c.args.leaving.now.came.now.vid c.args.leaving.now.came.now.frame in
    let i = c.loop-place.place-index in
    let p = slice_index_or c.args.places.now i (Local 0) in
    let rest = map f (drop (i + 1) c.args.places.now) in
    let all = map f c.args.places.now in
    let now = c.loop-place.outputs in
    let new = c.put_place.new.outputs in
    let left = left_is c.args.places.now i (Local 0) c.loop-place-test.true in
    let so_far = c.loop-place.invariant.sent start o at in
    let here = subst (λ l. PutSoFar c.args.leaving.now.moment start now o (map f l) all) left so_far in
    let lead = c.in-Err.ensures.sent start here.mid here.at in (
      here.front,
      f p,
      rest,
      here.is,
      subst (λ m. StandBetween start new m (with_all_sent c.args.leaving.now.moment o (here.front ++ f p ∷ []))) here.put
          (subst (StandBetween start new here.mid) (put_next c.args.leaving.now.moment start now o (f p) rest all here) lead.0),
    )

pub loop-place-preserved : goal.loop-place-preserved
loop-place-preserved g c =
    let S = (state_of c.args.leaving.now.endpoint.now).bridges.settings in
    let f = sent_at S c.args.leaving.now.came.now.vid c.args.leaving.now.came.now.frame in
    let two = has_two_tunnels S.overlay c.args.leaving.now.came.now.vid in
    let i = c.loop-place.place-index in
    let p = slice_index_or c.args.places.now i (Local 0) in
    let left = left_is c.args.places.now i (Local 0) c.loop-place-test.true in
    let whole = c.loop-place.invariant.text in
    record {
      sent = λ start o at.
          let here = subst (λ l. PutSoFar c.args.leaving.now.moment start c.loop-place.outputs o (map f l) (map f c.args.places.now)) left (c.loop-place.invariant.sent start o at) in
          put_more c.args.leaving.now.moment start c.loop-place.outputs c.put_place.new.outputs o (f p) (map f (drop (i + 1) c.args.places.now)) (map f c.args.places.now) here
          (c.in_default.ensures.sent start here.mid here.at);
      text = text_more two c.loop-place.is_first c.loop-place.line _ c.put_place.new.line (f p) (map f (drop (i + 1) c.args.places.now))
          (subst (λ l. c.loop-place.line ++ cond c.loop-place.is_first (outcomes_text two (map f l)) (further_text two (map f l)) ≡ c.args.line.now ++ outcomes_text two (map f c.args.places.now)) left whole)
          c.in_default.ensures.line;
      room = omega (arith, c.in_default.ensures.len, c.loop-place.invariant.room);
    }

pub returns-clause-sent : goal.returns-clause-sent
returns-clause-sent g c start o at =
    let f = sent_at (state_of c.args.leaving.now.endpoint.now).bridges.settings c.args.leaving.now.came.now.vid c.args.leaving.now.came.now.frame in
    let none = drop_all c.loop-place.place-index c.args.places.now c.loop-place-test.false in
    put_end c.args.leaving.now.moment start c.loop-place.outputs o (map f c.args.places.now)
    (subst (λ l. PutSoFar c.args.leaving.now.moment start c.loop-place.outputs o (map f l) (map f c.args.places.now)) none (c.loop-place.invariant.sent start o at))
