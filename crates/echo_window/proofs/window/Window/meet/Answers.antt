use Rattle.std.proofs.Common.{ap, ◌∙◌, option_map}
use Rattle.echo_window.specs.Echo.{Window, echo_of, origin_of}
use Rattle.echo_window.specs.Laid.{told}
use Rattle.echo_window.proofs.Recent.{recent-find}
use Rattle.echo_window.proofs.window.Window.meet.Goals as goal

pub returns-clause-answer : goal.returns-clause-answer
returns-clause-answer c =
    let m = told c.args.met.now in
    c.meet_recent.ensures.answer
    ∙ ap (λ (x : Window). echo_of x.within x.came m) c.forget_past.ensures
    ∙ ap (λ o. option_map origin_of o) (recent-find c.args.self.now.within m c.args.self.now.came)
