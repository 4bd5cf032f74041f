use Rattle.std.proofs.Common.{◌≤◌, ◌+◌, ◌*◌, length}
use Rattle.pcapng_input.proofs.Written.{IsSoFar}
use Rattle.pcapng_input.proofs.classic.classic_of.Given as goal

abbrev pub invariant-loop-block : goal.invariant-loop-block
invariant-loop-block l = record {
  so_far : IsSoFar l.selection l.text l.out.items l.context l.rest;
  blocks : 12 * l.context.blocks ≤ l.context.offset;
  offset : l.context.offset + length l.rest ≤ length l.text;
}

abbrev pub decreases-loop-block : goal.decreases-loop-block
decreases-loop-block l = length l.rest
