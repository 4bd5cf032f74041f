-- How a step is made, and why not. It serves proofs.
use Rattle.std.specs.Prelude.{◌≡◌, ℕ, List, Result, Ok, Err, ⊤}
use Rattle.pcapng_input.specs.Classic.{found_text}
use Rattle.pcapng_input.specs.Reading.{Context, Step, block_fault_at}
use Rattle.pcapng_input.specs.declared.fault.BlockFault.{BlockFault}
use Rattle.pcapng_input.specs.declared.fault.PcapngError.{PcapngError}
use Rattle.pcapng_input.specs.declared.fault.PcapngError.TheVariants.{Faulty, OutOfMemory}

-- the block that stands here has this fault, unless memory was refused
abbrev pub IsStepError : Result Step BlockFault → Context → PcapngError → Type 0
IsStepError step context (Faulty fault) = (step ≡ Err fault.fault) × (fault ≡ block_fault_at context fault.fault)
IsStepError step context OutOfMemory = ⊤

-- the step leads to this context, and these are the octets of its record
abbrev pub IsTakenAs : Context → List ℕ → Result Step BlockFault → Type 0
IsTakenAs context ready (Err fault) = ⊥
IsTakenAs context ready (Ok step) = (context ≡ step.context) × (ready ≡ found_text step.found)
