use Rattle.std.proofs.Common.{◌<◌, ℕ, get_or}
use Rattle.talkers.proofs.rows.rank.octets_fit.Given as goal

-- the octets so far
abbrev pub invariant-loop-i : goal.invariant-loop-i
invariant-loop-i l = (k : ℕ) → k < l.i → get_or l.octets k 0 < 256
