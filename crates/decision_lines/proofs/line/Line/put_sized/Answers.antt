use Rattle.std.proofs.Common.{◌∙◌, ap, ℕ, List, ◌++◌}
use Rattle.endpoint_core.specs.Kept.{state_of}
use Rattle.endpoint_core.specs.Step.{sent_at}
use Rattle.endpoint_core.specs.Text.{place_text}
use Rattle.decision_lines.specs.Outcomes.{count_text, gap}
use Rattle.decision_lines.proofs.Sized.{sized}
use Rattle.decision_lines.proofs.line.Line.put_sized.Goals as goal

pub returns-clause-text : goal.returns-clause-text
returns-clause-text c =
    let S = (state_of c.args.endpoint.now).bridges.settings in
    let sent = (sent_at S c.args.came.now.vid c.args.came.now.frame c.args.place).sent in
    let place = place_text c.args.two_tunnels c.args.place in
    c.put_counted.ensures.text
    ∙ ap (λ (t : List ℕ). c.args.self.now ++ (gap c.args.is_first ++ (place ++ t))) (ap count_text c.size_at-count.ensures ∙ sized sent)
