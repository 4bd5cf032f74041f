-- A text that is read from an input, in so many reads at most. It states no standard.
use Rattle.std.specs.Prelude.{◌≡◌, ◌≤◌, ◌⊎◌, ℕ, List, length, Option, IfSome, Result, Ok, Err}
use Rattle.pcap.specs.Counts.{GoesOnBy}
use Rattle.program_files.specs.declared.faults.text.TextFault.{TextFault}
use Rattle.program_files.specs.declared.faults.text.TextFault.TheVariants as fault

-- the count went on by no more than this
abbrev pub GoesOnByAtMost : ℕ → ℕ → ℕ → Type 0
GoesOnByAtMost most old new = (n : ℕ) × (n ≤ most) × GoesOnBy n old new

-- none failed, and all reads were made; where the input told its octets, there is one for each, so that none of the reads
-- was made at the end
pub record RunsOut (reads : ℕ) (told : Option (List ℕ)) (old_calls new_calls old_failures new_failures : ℕ) : Type 0 where
  pub quiet : new_failures ≡ old_failures
  pub calls : GoesOnBy reads old_calls new_calls
  pub octets : IfSome told (λ text. reads ≤ length text)

-- a read failed, or none was left
abbrev pub GivesUp : ℕ → Option (List ℕ) → ℕ → ℕ → ℕ → ℕ → Type 0
GivesUp reads told old_calls new_calls old_failures new_failures =
    GoesOnBy 1 old_failures new_failures ⊎ RunsOut reads told old_calls new_calls old_failures new_failures

-- one fact for the fault `Read`, and one for all other answers
abbrev pub MatchRead : {T : Type 0} → Result T TextFault → Type 0 → Type 0 → Type 0
MatchRead (Ok x) P Q = Q
MatchRead (Err fault.Read) P Q = P
MatchRead (Err fault.OutOfMemory) P Q = Q
