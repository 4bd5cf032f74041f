use Rattle.std.proofs.Common.{◌∙◌, Bool, Some, None, if◌then◌else◌, sym, ap}
use Rattle.echo_window.specs.Echo.{Record, behind_entered}
use Rattle.both_ways.specs.Sieve.{window_with}
use Rattle.both_ways.proofs.coming.enter.Goals as goal

pub returns : goal.returns
returns c =
    let w = c.args.window.now in
    let r : Record = record { place = c.args.place; number = c.args.event.now.number; moment = c.args.event.now.moment; frame = c.args.text.now; awaited = c.args.awaited.now } in
    c.enter.ensures
    ∙ ap (λ (x : Record). behind_entered w x) c.record_of.ensures
    ∙ ap (λ (q : Bool). window_with w (if q then None else Some r)) (sym (sym c.is_empty.ensures ∙ c.if-is_empty.false))
