use Rattle.std.proofs.Common.{◌≡◌, ◌≤◌, ◌+◌, drop}
use Rattle.clap.specs.Walk.{texts}
use Rattle.command_line.specs.Meaning.{inputs_among}
use Rattle.command_line.proofs.line.inputs_among.Given as goal

-- those so far, and those of what is left, are all of them
abbrev pub invariant-loop-name : goal.invariant-loop-name
invariant-loop-name l = record {
  count : l.count + inputs_among (texts (drop l.name-index l.names)) ≡ inputs_among (texts l.names);
  bound : l.count ≤ l.name-index;
}
