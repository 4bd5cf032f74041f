use Rattle.std.proofs.Common.{◌∙◌, ap, List, ℕ, ◌++◌}
use Rattle.std.specs.String.{string_bytes}
use Rattle.std.proofs.lemmas.Result.{on_ok_weaker}
use Rattle.run_counts.specs.Keeping.{refusals_in}
use Rattle.run_counts.proofs.Texts.{refused_is}
use Rattle.run_counts.proofs.lines.put_refused.Goals as goal

pub returns : goal.returns
returns c =
    on_ok_weaker c.writeln.result
    (λ put. put ∙ ap (λ (l : List ℕ). string_bytes c.args.text.now ++ l)
    (refused_is (refusals_in c.args.refusals.now) c.args.cause c.number-number.result c.refused_for-count.result c.name-name.result.now c.number-number.ensures c.name-name.ensures c.refused_for-count.ensures c.if-count-eq0.false))
    c.writeln.ensures.bytes
