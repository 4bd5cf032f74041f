-- How often an output in blocks hands on what it holds: in writes, and where it is asked to. It states no standard.
--     Step      one call of an output in blocks that succeeded
--     AreSteps      calls of it, one behind another, in which something went on so many times
--     HandsOnSeldom      a law: how often something goes on at most, by the octets and by how often that was asked for
--     AsksSeldom      a law: how often that is asked for at most where so many octets more might find no room
use Rattle.std.specs.Prelude.{◌≡◌, ◌≤◌, ◌+◌, ◌-◌, ◌*◌, ℕ, nat_le, true, if◌then◌else◌, List, [], ◌∷◌, length}
use Rattle.std.specs.Io.KnownBytes.{Keeps}
use Rattle.pcap.specs.Block.{Block, HoldsBack, may_hold, must_hand_on, told}

-- these octets were written; what was held back was handed on before a read that may wait; or it was since so many octets more
-- might find no room
pub data Step : Type 0 where
  Write : List ℕ → Step
  Waits : Step
  Wants : ℕ → Step

-- what is held back was handed on
pub record IsHanded (old new : Block) : Type 0 where
  pub size : new.size ≡ old.size
  pub kept : Keeps (told old) (told new)
  pub out : new.held ≡ []

-- what a call makes of an output in blocks: what `write_all`, `write_gathered` and `hand_on_held` answer with Ok
abbrev pub IsStep : Block → Step → Block → Type 0
IsStep old (Write octets) new = (new.size ≡ old.size) × HoldsBack (length octets) old new octets
IsStep old Waits new = IsHanded old new
IsStep old (Wants more) new = IsHanded old new × (must_hand_on old more ≡ true)

-- how often something goes on in it: never, where the block may hold the octets; its block, where it may hold them then; and else
-- they too
abbrev pub hand_overs : Block → Step → ℕ
hand_overs old (Write octets) = if may_hold old (length octets) then 0 else if nat_le (length octets) old.size then 1 else 2
hand_overs old Waits = 1
hand_overs old (Wants more) = 1

abbrev pub AreSteps : Block → List Step → ℕ → Block → Type 0
AreSteps old [] count new = (count ≡ 0) × (new ≡ old)
AreSteps old (s ∷ ss) count new = (next : Block) × (rest : ℕ) × IsStep old s next × (count ≡ hand_overs old s + rest)
    × AreSteps next ss rest new

-- ---- of some calls

-- how many octets were written
abbrev pub octets : List Step → ℕ
octets [] = 0
octets (Write text ∷ ss) = length text + octets ss
octets (Waits ∷ ss) = octets ss
octets (Wants more ∷ ss) = octets ss

-- how often what is held back was asked for, before reads and for want of room
abbrev pub asks : List Step → ℕ
asks [] = 0
asks (Write text ∷ ss) = asks ss
asks (Waits ∷ ss) = 1 + asks ss
asks (Wants more ∷ ss) = 1 + asks ss

-- how often for want of room for so many octets
abbrev pub wants : ℕ → List Step → ℕ
wants most [] = 0
wants most (Write text ∷ ss) = wants most ss
wants most (Waits ∷ ss) = wants most ss
wants most (Wants more ∷ ss) = if nat_le more most then 1 + wants most ss else wants most ss

-- ---- the laws

-- a law: of a block that held nothing, twice for each block of octets and once for each time that it was asked for
abbrev pub HandsOnSeldom : Type 0
HandsOnSeldom = (old new : Block) (steps : List Step) (count : ℕ) → AreSteps old steps count new → old.held ≡ []
    → old.size * count ≤ 2 * octets steps + old.size * asks steps

-- a law: for want of room for at most so many octets, once for each block of octets but for so many
abbrev pub AsksSeldom : Type 0
AsksSeldom = (old new : Block) (steps : List Step) (count most : ℕ) → AreSteps old steps count new → old.held ≡ []
    → (old.size - most) * wants most steps ≤ octets steps

-- a law: where something didn't go on so often, nothing was written to the output behind
abbrev pub GoesOnOnlyThen : Type 0
GoesOnOnlyThen = (old new : Block) (steps : List Step) → AreSteps old steps 0 new → new.written ≡ old.written
