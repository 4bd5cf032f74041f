-- The exit statuses of the faults of runs in memory and of the program. It states no standard.
use Rattle.std.specs.Prelude.{ℕ}
use Rattle.capture_run.specs.declared.fault.RunFault.{RunFault}
use Rattle.capture_run.specs.declared.fault.RunFault.TheVariants as faults
use Rattle.program_files.specs.declared.faults.failure.Failure.{Failure}
use Rattle.program_files.specs.declared.faults.failure.Failure.TheVariants as failures

-- 1 for what was refused, 3 for want of memory
abbrev pub status_of : RunFault → ℕ
status_of (faults.Settings fault) = 1
status_of (faults.Changes fault) = 1
status_of faults.PortCount = 1
status_of (faults.Capture tap fault) = 1
status_of (faults.Record tap number fault) = 1
status_of faults.OutOfMemory = 3

-- of what the program gives up for: 1 for a text, a capture, a part, a folder or digests that are refused, an event that isn't
-- there, captures that differ or endpoints that don't reach others, 3 for want of memory, a failed read, a failed write or outputs that are one file
abbrev pub failure_status_of : Failure → ℕ
failure_status_of (failures.Run fault) = status_of fault
failure_status_of (failures.Pcapng tap fault) = 1
failure_status_of (failures.Read name) = 3
failure_status_of (failures.Write output) = 3
failure_status_of (failures.WriteFailed output fault) = 3
failure_status_of (failures.OneFile one other) = 3
failure_status_of (failures.ReadAgain output) = 1
failure_status_of (failures.Unended folder) = 1
failure_status_of (failures.NoEvent name) = 1
failure_status_of (failures.Segments fault) = 1
failure_status_of (failures.Within text) = 1
failure_status_of (failures.Shift text) = 1
failure_status_of (failures.Digests name fault) = 1
failure_status_of (failures.Part folder fault) = 1
failure_status_of (failures.Parting fault) = 1
failure_status_of (failures.Compared fault) = 1
failure_status_of (failures.ComparedPcapng side fault) = 1
failure_status_of (failures.ComparedAt tap fault) = 1
failure_status_of (failures.ComparedPcapngAt tap side fault) = 1
failure_status_of (failures.Worked name fault) = 1
failure_status_of failures.Differs = 1
failure_status_of (failures.Missing number) = 1
failure_status_of (failures.Split name fault) = 1
failure_status_of (failures.Unwritten file) = 3
failure_status_of (failures.Leaf name fault) = 1
failure_status_of failures.Unreached = 1
