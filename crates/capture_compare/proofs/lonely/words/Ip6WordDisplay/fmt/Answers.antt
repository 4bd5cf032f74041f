use Rattle.std.proofs.Common.{rules}
use Rattle.capture_compare.specs.Words.{eight_word}
use Rattle.capture_compare.proofs.lonely.words.Ip6WordDisplay.fmt.Goals as goal

pub returns-clause-writes : goal.returns-clause-writes
unfolding eight_word
returns-clause-writes g c = rw (← c.array_of.ensures, ← c.array_of-2.ensures) (search rules)
