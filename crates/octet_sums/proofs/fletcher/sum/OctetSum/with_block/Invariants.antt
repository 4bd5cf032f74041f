use Rattle.std.proofs.Common.{◌≡◌, ◌≤◌, ◌+◌, ◌*◌, ◌/◌, ◌%◌, ◌^◌, ◌-◌, take}
use Rattle.octet_sums.specs.Sums.{in_text, in_word, weighed}
use Rattle.octet_sums.proofs.fletcher.sum.OctetSum.with_block.Given as goal

abbrev pub invariant-loop-at : goal.invariant-loop-at
invariant-loop-at l = record {
  bound : l.at ≤ l.most;
  word : l.at % 8 ≡ 0;
  first : l.first ≡ weighed in_word l.self.octets (take l.at l.octets);
  second : weighed in_text l.self.octets (take l.at l.octets) + l.falling ≡ (l.self.octets / 8 + l.at / 8 + 1) * l.first;
  first_fits : l.first ≤ l.at / 8 * 2 ^ 64;
  falling_fits : l.falling ≤ l.at / 8 * 2 ^ 80;
}

abbrev pub decreases-loop-at : goal.decreases-loop-at
decreases-loop-at l = l.most - l.at
