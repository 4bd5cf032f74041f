use Rattle.std.proofs.Common.{◌∙◌, ℕ, Bool, [], ◌∷◌, drop, if◌then◌else◌, ap, slice_index_or}
use Rattle.echo_window.specs.Echo.{Window, first_met, is_met_everywhere, with_ages}
use Rattle.echo_window.specs.Laid.{told}
use Rattle.echo_window.proofs.window.Window.lose_first.Goals as goal

pub returns : goal.returns
returns c =
    let was = c.args.self.now in
    let r = told c.args.met.now in
    let first = slice_index_or was.came 0 (first_met r) in
    c.forget_first.ensures
    ∙ ap (λ (w : Window). let more : Window = record { within = w.within; came = drop 1 w.came; forgotten = w.forgotten } in more) c.count_lost.ensures
    ∙ ap (λ (q : Bool). let more : Window = record { within = was.within; came = drop 1 was.came; forgotten = with_ages was.forgotten (if q then [] else c.first_age.result ∷ []) } in more) (c.is_first_met.ensures r)
    ∙ ap (λ (n : ℕ). let more : Window = record { within = was.within; came = drop 1 was.came; forgotten = with_ages was.forgotten (if is_met_everywhere first then [] else n ∷ []) } in more) c.first_age.ensures
