-- What a run answers, of which the sample tells the decision lines. It states no standard.
use Rattle.std.specs.Prelude.{ℕ, List, Result, Ok, Err}
use Rattle.capture_run.specs.Outputs.{Outputs}
use Rattle.capture_run.specs.declared.fault.RunFault.{RunFault}

-- of what comes out of a run, the decision lines
abbrev pub decisions_of : Result Outputs RunFault → Result (List ℕ) RunFault
decisions_of (Ok outputs) = Ok outputs.decisions
decisions_of (Err fault) = Err fault
