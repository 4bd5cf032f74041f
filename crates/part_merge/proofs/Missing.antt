-- What comes of a merge whose pieces are numbered or not.
use Rattle.std.proofs.Common.{◌≡◌, ◌∙◌, sym, ℕ, zero, suc, ◌+◌, ◌<◌, arith, List, ◌∷◌, ◌++◌, Result, Ok, Err}
use Rattle.std.specs.List.{range_with_len}
use Rattle.part_merge.specs.Left.{IsDeviceFault, UnlessDevice}
use Rattle.part_merge.specs.Merged.{Piece}
use Rattle.part_merge.specs.Numbers.{AreNumbered, IsMissing, IsStop, UnlessMissing}
use Rattle.part_merge.specs.declared.fault.MergeFault.{MergeFault}
use Rattle.part_merge.specs.declared.fault.MergeFault.TheVariants as faults

-- a device that failed stops a merge
pub device_stops : (pieces : List Piece) (fault : MergeFault) → IsDeviceFault fault → IsStop pieces fault
device_stops pieces (faults.Read part) h = tt
device_stops pieces (faults.Write target) h = tt
device_stops pieces (faults.Missing number) h = absurd h
device_stops pieces (faults.Part part fault) h = absurd h

module _ {T : Type 0} where
  pub unless_missing : (pieces : List Piece) (A B : Type 0) (result : Result T MergeFault) → AreNumbered pieces → (A → B) → UnlessDevice result A → UnlessMissing result pieces B
  unless_missing pieces A B (Ok x) numbered f h = (numbered, f h)
  unless_missing pieces A B (Err fault) numbered f h = device_stops pieces fault h

-- ---- a whole run

-- numbers on from one don't jump
jumps_not : (a n count next : ℕ) (behind : List ℕ) → range_with_len a n ≡ range_with_len a count ++ next ∷ behind → a + count < next → ⊥
jumps_not a zero zero next behind is greater = absurd cc
jumps_not a zero (suc count) next behind is greater = absurd cc
jumps_not a (suc n) zero next behind is greater = let first : a ≡ next = cc in omega (arith, first, greater)
jumps_not a (suc n) (suc count) next behind is greater =
    let rest : range_with_len (a + 1) n ≡ range_with_len (a + 1) count ++ next ∷ behind = cc in
    let far : a + 1 + count < next = omega (arith, greater) in
    jumps_not (a + 1) n count next behind rest far

-- where none is missing a merge is stopped by a device alone
none_missing : (pieces : List Piece) (number : ℕ) → AreNumbered pieces → IsMissing number pieces → ⊥
none_missing pieces number all missing = jumps_not 1 all.0 missing.count missing.next missing.behind (sym all.1 ∙ missing.numbered) (omega (arith, missing.is, missing.greater))

stop_device : (pieces : List Piece) (fault : MergeFault) → AreNumbered pieces → IsStop pieces fault → IsDeviceFault fault
stop_device pieces (faults.Read part) all h = tt
stop_device pieces (faults.Write target) all h = tt
stop_device pieces (faults.Missing number) all h = absurd (none_missing pieces number all h)
stop_device pieces (faults.Part part fault) all h = absurd h

module _ {T : Type 0} where
  pub unless_device : (pieces : List Piece) (A : Type 0) (result : Result T MergeFault) → AreNumbered pieces → UnlessMissing result pieces A → UnlessDevice result A
  unless_device pieces A (Ok x) all h = h.1
  unless_device pieces A (Err fault) all h = stop_device pieces fault all h
