use Rattle.std.proofs.Common.{◌≡◌, ◌+◌, ◌*◌}
use Rattle.sha2.specs.Sha256.{rounds, schedule}
use Rattle.octet_sums.specs.Lanes.{four, four_keyed}
use Rattle.octet_sums.proofs.sha256.block.compress.Given as goal

abbrev pub invariant-turns : goal.invariant-turns
invariant-turns l = record {
  v : l.v ≡ rounds l.state (schedule l.block 48) (16 * l.turn);
  w0 : l.w0 ≡ four (schedule l.block 48) (16 * l.turn);
  w1 : l.w1 ≡ four (schedule l.block 48) (16 * l.turn + 4);
  w2 : l.w2 ≡ four (schedule l.block 48) (16 * l.turn + 8);
  w3 : l.w3 ≡ four (schedule l.block 48) (16 * l.turn + 12);
  first : l.keyed.first ≡ four_keyed (schedule l.block 48) (16 * l.turn);
  second : l.keyed.second ≡ four_keyed (schedule l.block 48) (16 * l.turn + 4);
  third : l.keyed.third ≡ four_keyed (schedule l.block 48) (16 * l.turn + 8);
  fourth : l.keyed.fourth ≡ four_keyed (schedule l.block 48) (16 * l.turn + 12);
}
