use Rattle.std.proofs.Common.{◌≡◌, ◌∙◌, ◌/◌, ◌++◌, decimal, length, length-append, ap, arith}
use Rattle.std.proofs.lemmas.Fmt.{length-decimal-le}
use Rattle.decision_lines.proofs.LineLemmas.{put_eights}
use Rattle.decision_lines.proofs.line.Line.put_moment.Goals as goal

pub returns-clause-text : goal.returns-clause-text
returns-clause-text c =
    put_eights c.args.self.now c.put_front.new.self c.put_four.new.self c.put_four-2.new.self c.args.moment (omega (arith, c.if-moment-lt100000000.false)) c.ranges.moment.fits
    c.put_front.ensures.text c.put_four.ensures.text c.put_four-2.ensures.text

pub returns-clause-len : goal.returns-clause-len
returns-clause-len c =
    omega (
      arith,
      ap length (returns-clause-text c),
      length-append c.args.self.now (decimal c.args.moment),
      length-decimal-le 20 c.args.moment (omega arith) (omega (arith, c.ranges.moment.fits)) c.ranges.moment.fits,
    )
