use Rattle.std.proofs.Common.{Some, sym, ap, ◌∙◌, option_map}
use Rattle.echo_window.specs.Echo.{first_met, is_echo_of, origin_of}
use Rattle.echo_window.specs.Laid.{told}
use Rattle.echo_window.proofs.Firsts.{found_at, found_nowhere}
use Rattle.echo_window.proofs.window.Window.meet_recent.Goals as goal

pub returns-in-Some-clause-answer : goal.returns-in-Some-clause-answer
returns-in-Some-clause-answer c =
    let m = told c.args.met.now in
    let here = found_at (is_echo_of c.args.self.now.within m) c.args.self.now.came c.in-Some.i (first_met m) c.in-Some.ensures in
    ap Some c.mark.ensures.origin ∙ ap (λ o. option_map origin_of o) here.2

pub returns-in-None-clause-answer : goal.returns-in-None-clause-answer
returns-in-None-clause-answer c =
    let m = told c.args.met.now in
    sym (ap (λ o. option_map origin_of o) (found_nowhere (is_echo_of c.args.self.now.within m) c.args.self.now.came c.in-None.ensures))
