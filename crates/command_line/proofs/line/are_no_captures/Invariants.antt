use Rattle.std.proofs.Common.{◌≡◌, drop}
use Rattle.clap.specs.Walk.{texts}
use Rattle.command_line.specs.Meaning.{are_no_captures}
use Rattle.command_line.proofs.line.are_no_captures.Given as goal

-- whether those that are left say so is whether all do
abbrev pub invariant-loop-name : goal.invariant-loop-name
invariant-loop-name l = are_no_captures (texts (drop l.name-index l.names)) ≡ are_no_captures (texts l.names)
