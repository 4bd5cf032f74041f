use Rattle.std.proofs.Common.{◌≡◌, ◌≤◌, drop}
use Rattle.segment_set.specs.Lists.{number_behind}
use Rattle.segment_set.proofs.item.vid_in.Given as goal

abbrev pub invariant-loop-digit : goal.invariant-loop-digit
invariant-loop-digit l = record {
  same : number_behind l.number (drop l.digit-index l.digits) ≡ number_behind 0 l.digits;
  most : l.number ≤ 4094;
}
