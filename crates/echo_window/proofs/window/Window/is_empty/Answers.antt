use Rattle.std.proofs.Common.{sym, ap, ◌∙◌, nat_eq}
use Rattle.echo_window.proofs.Showing.{came-is, count-is}
use Rattle.echo_window.proofs.window.Window.is_empty.Goals as goal

pub returns : goal.returns
returns c = c.is_empty.ensures ∙ ap (λ n. nat_eq n 0) (c.self.inside.frames.ok.0 ∙ sym (count-is _ _ _ (came-is c.self.view_is)))
