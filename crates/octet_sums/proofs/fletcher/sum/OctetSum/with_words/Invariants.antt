use Rattle.std.proofs.Common.{◌≡◌, ◌≤◌, ◌<◌, ◌%◌, List, ℕ, ◌++◌, ◌-◌, length, take}
use Rattle.octet_sums.specs.Sums.{IsSumOf}
use Rattle.octet_sums.proofs.fletcher.sum.OctetSum.with_words.Given as goal

abbrev pub invariant-loop-at : goal.invariant-loop-at
invariant-loop-at l = record {
  bound : l.at ≤ length l.octets;
  word : l.at < length l.octets → l.sum.octets % 8 ≡ 0;
  sum : (before : List ℕ) → IsSumOf l.fn.self before → IsSumOf l.sum (before ++ take l.at l.octets);
}

abbrev pub decreases-loop-at : goal.decreases-loop-at
decreases-loop-at l = length l.octets - l.at
