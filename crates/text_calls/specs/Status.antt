-- The exit statuses of the faults of runs over streams. It states no standard.
use Rattle.std.specs.Prelude.{ℕ}
use Rattle.stream_run.specs.declared.fault.StreamFault.{StreamFault}
use Rattle.stream_run.specs.declared.fault.StreamFault.TheVariants as streams
use Rattle.program_files.specs.Status.{status_of}

-- that of the run's own fault, 3 for a read or a write that failed
abbrev pub stream_status_of : StreamFault → ℕ
stream_status_of (streams.Run fault) = status_of fault
stream_status_of (streams.Read tap) = 3
stream_status_of (streams.Write target) = 3
