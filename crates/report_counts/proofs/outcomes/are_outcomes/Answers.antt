use Rattle.std.proofs.Common.{◌≡◌, ◌<◌, length, ap, arith}
use Rattle.line_words.specs.Words.{behind}
use Rattle.report_counts.proofs.Steps.{behind_shorter}
use Rattle.report_counts.proofs.outcomes.are_outcomes.Goals as goal

pub loop-rest-smaller : goal.loop-rest-smaller
loop-rest-smaller c =
    let some : 0 < length c.loop-rest.rest.now = grind arith in
    let left : length c.first_word.result.1.now ≡ length (behind c.loop-rest.rest.now) = ap length c.first_word.ensures.behind in
    omega (arith, behind_shorter c.loop-rest.rest.now some, left)
