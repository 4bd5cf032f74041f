use Rattle.std.proofs.Common.{◌∙◌, ap, rules, subst, ℕ, List, take, drop, Err}
use Rattle.std.proofs.lemmas.List.{with_items_is, places}
use Rattle.std.specs.Io.KnownBytes.{prepend_known}
use Rattle.line_stream.specs.Filled.{IsFilled}
use Rattle.line_stream.proofs.Fills.{not_filled}
use Rattle.line_stream.proofs.fill.next_line.Goals as goal

pub returns-in-Err-clause-lent : goal.returns-in-Err-clause-lent
returns-in-Err-clause-lent g c =
    let moved = with_items_is c.args.room.now c.move_front-filled.new.room (search (rules, places)) in
    let front = ap (take c.move_front-filled.result) moved ∙ c.move_front-filled.ensures.moved ∙ ap (λ (l : List ℕ). drop c.args.lent.end (take c.args.lent.read l)) c.as_mut_slice.ensures.value in
    not_filled _ _ (g.R.Input.remaining c.fill_line.new.input) _ c.fill_line.new.room.items c.in-Err.fault
    (subst (λ (l : List ℕ). IsFilled (prepend_known l (g.R.Input.remaining c.args.input.now)) (g.R.Input.failures c.args.input.now) (g.R.Input.remaining c.fill_line.new.input) (g.R.Input.failures c.fill_line.new.input) c.fill_line.new.room.items (Err c.in-Err.fault))
    front c.in-Err.ensures.filled)
