use Rattle.std.proofs.Common.{◌≡◌, ◌≤◌, ◌-◌}
use Rattle.record_match.specs.Bucket.{word_sum}
use Rattle.record_match.proofs.bucket.word_sum.Given as goal

abbrev pub invariant-loop-i : goal.invariant-loop-i
invariant-loop-i l = record {
  summed : l.sum ≡ word_sum l.i l.fn.octets;
  there : l.i ≤ l.words;
}

abbrev pub decreases-loop-i : goal.decreases-loop-i
decreases-loop-i l = l.words - l.i

abbrev pub invariant-loop-i-2 : goal.invariant-loop-i-2
invariant-loop-i-2 l = record {
  summed : l.sum ≡ word_sum l.i l.fn.octets;
  there : l.i ≤ l.words;
}

abbrev pub decreases-loop-i-2 : goal.decreases-loop-i-2
decreases-loop-i-2 l = l.words - l.i
