use Rattle.std.proofs.Common.{◌≡◌, ◌≤◌, ◌∙◌, ◌+◌, ◌-◌, ◌++◌, ap, arith, drop, length, length-take, rules, slice_range, subst, take}
use Rattle.std.proofs.Math.Seq.{take-add}
use Rattle.std.proofs.lemmas.Bool.{ltb-false}
use Rattle.std.proofs.lemmas.List.{take_at}
use Rattle.std.specs.Io.KnownBytes.{Consumes}
use Rattle.pcapng_input.specs.Adapter.{Gathered}
use Rattle.pcapng_input.proofs.gathered.Gathered.fetch.Goals as goal

pub returns-clause-fetched : goal.returns-clause-fetched
returns-clause-fetched g c =
    let inside = c.self.inside in
    let first = c.move_front-self-inside.new.room in
    let held = c.move_front-self-inside.result in
    let now = c.read_between.new.room in
    let n = c.in-Ok-read_between.n in
    let taken = take n (drop held now) in
    let room = c.make_room.new.room in
    let was = c.self.view_is in
    let moved-items = first ++ drop (length first) inside.room.items in
    let moved-size : length first ≡ inside.room.len = search rules in
    let moved : take inside.room.len moved-items ≡ first = take_at first (drop (length first) inside.room.items) inside.room.len moved-size in
    let fits : held ≤ length (take inside.room.len moved-items) =
    omega (arith, ap length moved, c.move_front-self-inside.ensures.end, c.move_front-self-inside.ensures.size, c.as_mut_slice.ensures.len, c.self.invariant.0, c.self.invariant.1) in
    let had : take held room.items ≡ take held (take inside.room.len moved-items) = c.make_room.ensures.front held fits in
    let kept : take held now ≡ take held room.items = search rules in
    let same : take held now ≡ slice_range inside.room.items inside.from inside.to = kept ∙ had ∙ ap (take held) moved ∙ c.move_front-self-inside.ensures.front
    ∙ ap (λ t. slice_range t inside.from inside.to) c.as_mut_slice.ensures.value in
    let items = now ++ drop (length now) room.items in
    let size : length now ≡ room.len = search rules in
    let all : take room.len items ≡ now = take_at now (drop (length now) room.items) room.len size in
    let front : take (held + n) (take room.len items) ≡ take (held + n) now = ap (take (held + n)) all in
    let whole : held + n - 0 ≡ held + n = omega arith in
    let before : take (held + n - 0) (take room.len items) ≡ take (held + n) now = ap (λ m. take m (take room.len items)) whole ∙ front in
    record {
      taken = taken;
      held = before ∙ take-add held n now ∙ ap (λ t. t ++ taken) (same ∙ ap (λ (x : Gathered). x.held) was);
      consumed = subst (λ x. Consumes x (g.R.Input.remaining c.read_between.new.input) taken) (ap (λ (x : Gathered). x.supply.rest) was) c.in-Ok-read_between.ensures.taken;
      fits = omega (arith, c.in-Ok-read_between.ensures.fits, ap length before, length-take (held + n) now, c.in-Ok.ensures.end);
      end = λ none.
          let zero_is : n ≡ 0 = omega (arith, ltb-false 0 n none) in
          (ap (λ k. take k (drop held now)) zero_is, c.in-Ok-read_between.ensures.end zero_is);
    }
