use Rattle.std.proofs.Common.{◌≡◌, drop}
use Rattle.clap.specs.Walk.{texts}
use Rattle.tep_program.specs.Status.{first_no_event}
use Rattle.tep_program.proofs.program.first_no_event.Given as goal

-- the first of those that are left is the first of all
abbrev pub invariant-loop-name : goal.invariant-loop-name
invariant-loop-name l = first_no_event (texts (drop l.name-index l.names)) ≡ first_no_event (texts l.names)
