-- An output in blocks. It serves the contracts of such an output, and states no standard.
--     Block      what an output has, and what the block in front of it holds
--     told      all that was written
--     must_hand_on      whether something has to go on before so many octets more are written
--     HoldsBack      what a write leaves in the block, and what went on
--     HoldsRest      what it leaves there after a fault
--     StandsOutside      where the block holds nothing, what was written is what the output has
use Rattle.std.specs.Prelude.{◌≡◌, ◌+◌, ℕ, nat_le, nat_lt, Bool, false, not, ◌&&◌, MatchBool, List, [], ◌++◌, drop, length, Option}
use Rattle.std.specs.Io.KnownBytes.{Appends, append_known}

-- what the output has, where it tells that, and how often it failed or took nothing; what the block holds, and how much it can
pub record Block : Type 0 where
  pub written : Option (List ℕ)
  pub failures : ℕ
  pub held : List ℕ
  pub size : ℕ

-- all that was written: what the output has, and then the block
abbrev pub told : Block → Option (List ℕ)
told b = append_known b.written b.held

-- the block may hold so many octets more
abbrev pub may_hold : Block → ℕ → Bool
may_hold b more = nat_le (length b.held + more) b.size

-- it holds octets, and these have to go on before it may hold so many more
abbrev pub must_hand_on : Block → ℕ → Bool
must_hand_on b more = not (may_hold b more) && nat_lt 0 (length b.held)

-- some octets were taken of a write of so many. Where the block may hold them all behind what it holds, it does, and nothing
-- goes on. Else what it held goes on, and the block holds them where it may hold so many, and else they go on too
abbrev pub HoldsBack : ℕ → Block → Block → List ℕ → Type 0
HoldsBack more old new taken =
    MatchBool (may_hold old more)
    ((new.written ≡ old.written) × (new.held ≡ old.held ++ taken))
    (MatchBool (nat_le more old.size)
    (Appends old.written new.written old.held × (new.held ≡ taken))
    (Appends old.written new.written (old.held ++ taken) × (new.held ≡ [])))

-- these octets are the last ones of others
abbrev pub IsRest : List ℕ → List ℕ → Type 0
IsRest old new = (n : ℕ) × (new ≡ drop n old)

-- the write had a fault: the block could not hold so many more, and holds a rest of what it held
abbrev pub HoldsRest : ℕ → Block → Block → Type 0
HoldsRest more old new = (may_hold old more ≡ false) × IsRest old.held new.held

-- a law: where the block holds nothing, all that was written stands in the output behind it, as if there were no block
abbrev pub StandsOutside : Type 0
StandsOutside = (b : Block) → b.held ≡ [] → told b ≡ b.written
