use Rattle.std.proofs.lemmas.Result.{on_ok_weaker}
use Rattle.report_page.proofs.Written.{appends_shown}
use Rattle.report_page.proofs.pen.show.Goals as goal

pub returns : goal.returns
returns g c =
    on_ok_weaker _ (appends_shown _ (λ s. g.W.Output.written s.out.now) (λ s. s.out.ghost_name) (λ _ _ _ t. t) _ (g.D.Display.output c.args.value) _)
    c.write.ensures.writes
