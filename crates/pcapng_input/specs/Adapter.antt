-- An input of a capture: what it has ready, where it stands, and what the input below it has left. It states no standard.
use Rattle.std.specs.Prelude.{◌≡◌, ◌≤◌, ℕ, Bool, false, List, [], ◌++◌, length, Option, Some, None, option_map, ⊤}
use Rattle.std.specs.Io.KnownBytes.{Consumes, IsAtEnd}
use Rattle.pcap.specs.Supply.{Supply}
use Rattle.pcapng_input.specs.Adapted.{Stand, Told, left_out_at, met, told_at, told_behind}
use Rattle.pcapng_input.specs.declared.fault.PcapngFault.{PcapngFault}
use Rattle.pcapng_input.specs.declared.interface.Selection.{Selection}

-- octets that were read of an input and aren't used yet, and the input
pub record Gathered : Type 0 where
  pub held : List ℕ
  pub supply : Supply

-- an input of a capture: the interfaces whose packets are taken, the octets that are ready to be given, where it stands, and
-- what was read below
pub record Adapter : Type 0 where
  pub selection : Selection
  pub ready : List ℕ
  pub stand : Stand
  pub below : Gathered

-- what is told from here on, by the octets that the input below has left
abbrev pub told_from : Adapter → List ℕ → Told
told_from a rest = told_behind a.ready (told_at a.selection a.stand (a.below.held ++ rest))

-- the same where the input below tells its octets
abbrev pub told : Adapter → Option Told
told a = option_map (told_from a) a.below.supply.rest

-- the octets that are still to come
abbrev pub told_octets : Adapter → Option (List ℕ)
told_octets a = option_map (λ (t : Told). t.octets) (told a)

-- the fault that they end with, if any
abbrev pub told_fault : Adapter → Option (Option PcapngFault)
told_fault a = option_map (λ (t : Told). t.fault) (told a)

-- the fault that was met, if any
abbrev pub met_fault : Adapter → Option PcapngFault
met_fault a = met a.stand

-- how many packets were left out yet
abbrev pub left_out_by : Adapter → ℕ
left_out_by a = left_out_at a.stand

-- ---- one read below. It serves proofs.

-- some octets were taken behind those that were held, and none only at the end
pub record IsFetched (wanted : ℕ) (old new : Gathered) (is_more : Bool) : Type 0 where
  pub taken : List ℕ
  pub held : new.held ≡ old.held ++ taken
  pub consumed : Consumes old.supply.rest new.supply.rest taken
  pub fits : length new.held ≤ wanted
  pub end : is_more ≡ false → (taken ≡ []) × IsAtEnd new.supply.rest

-- what is told stays
abbrev pub KeepsTold : Option Told → Option Told → Type 0
KeepsTold None new = ⊤
KeepsTold (Some old) None = ⊥
KeepsTold (Some old) (Some new) = new ≡ old

-- some octets of what was told are behind
abbrev pub TellsBehind : Option Told → List ℕ → Option Told → Type 0
TellsBehind None given new = ⊤
TellsBehind (Some old) given None = ⊥
TellsBehind (Some old) given (Some new) = told_behind given new ≡ old

-- the fault that the octets end with stays
abbrev pub KeepsFault : Option (Option PcapngFault) → Option (Option PcapngFault) → Type 0
KeepsFault None new = ⊤
KeepsFault (Some old) None = ⊥
KeepsFault (Some old) (Some new) = new ≡ old

-- all was told, there was no fault, and so many packets were left out
abbrev pub IsAllTold : ℕ → Option Told → Type 0
IsAllTold left_out None = ⊤
IsAllTold left_out (Some t) = t ≡ record { octets = []; fault = None; left_out = left_out }
