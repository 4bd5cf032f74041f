-- Why a read of a capture's input fails. It states no standard.
--     FailsFor      no read below failed and all is well, or one of three causes
use Rattle.std.specs.Prelude.{◌≡◌, ◌⊎◌, Bool, true, false, IsSome, Result, Ok, Err}
use Rattle.pcap.specs.Supply.{GivesUp, Supply}
use Rattle.pcapng_input.specs.Adapter.{Adapter, met_fault}
use Rattle.pcapng_input.specs.declared.stop.Stop.{Stop}
use Rattle.pcapng_input.specs.declared.stop.Stop.TheVariants as stop

module _ {T E : Type 0} where
  -- no read of the input below failed; or one did, or none may be made of it any more, or a fault was met, or, where that is
  -- told, memory was refused
  abbrev pub FailsFor : Adapter → Adapter → Bool → Result T E → Type 0
  FailsFor old new lacks_memory (Ok x) = new.below.supply.failures ≡ old.below.supply.failures
  FailsFor old new lacks_memory (Err e) = GivesUp old.below.supply new.below.supply ⊎ IsSome (met_fault new) ⊎ (lacks_memory ≡ true)

-- ---- the steps. It serves proofs.

-- it is told that memory was refused
abbrev pub is_of_memory : Stop → Bool
is_of_memory stop.Below = false
is_of_memory stop.Fault = false
is_of_memory stop.NoMemory = true

module _ {T : Type 0} where
  -- no read of the input below failed, but where that is why; what holds at a fault of the text
  abbrev pub StopsFor : Type 0 → Supply → Supply → Result T Stop → Type 0
  StopsFor AtFault old new (Err stop.Below) = GivesUp old new
  StopsFor AtFault old new (Err stop.Fault) = AtFault
  StopsFor AtFault old new result = new.failures ≡ old.failures
