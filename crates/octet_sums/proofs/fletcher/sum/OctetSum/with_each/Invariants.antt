use Rattle.std.proofs.Common.{List, ℕ, ◌++◌, take}
use Rattle.octet_sums.specs.Sums.{IsSumOf}
use Rattle.octet_sums.proofs.fletcher.sum.OctetSum.with_each.Given as goal

abbrev pub invariant-loop-octet : goal.invariant-loop-octet
invariant-loop-octet l = record {
  sum : (before : List ℕ) → IsSumOf l.fn.self before → IsSumOf l.sum (before ++ take l.octet-index l.octets);
}
