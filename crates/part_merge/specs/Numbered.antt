-- The lines that a merge writes, whatever its parts hold. It states no standard.
--     AddsNumbered      an output holds lines of events more, numbered 1, 2 and so on, and behind them lines of cut captures
--     AreRead      no line of any part is left
use Rattle.std.specs.Prelude.{◌≡◌, ◌<◌, ⊤, ℕ, List, ◌++◌, length, map, slice_index_or, Option, Some, None, Result, Ok, Err}
use Rattle.std.specs.Io.KnownBytes.{Appends}
use Rattle.std.specs.List.{AllByRecursion, concat, range_with_len}
use Rattle.part_lines.specs.Facts.{facts_of}
use Rattle.part_lines.specs.declared.facts.LineFacts.{LineFacts}
use Rattle.part_lines.specs.declared.facts.LineFacts.TheVariants as told
use Rattle.part_lines.specs.declared.fault.LineFault.{LineFault}
use Rattle.part_merge.specs.Coming.{OpenPart}
use Rattle.part_merge.specs.Firsts.{IsNone}
use Rattle.part_merge.specs.declared.coming.Coming.{Coming}
use Rattle.part_merge.specs.declared.coming.Coming.TheVariants as coming

-- ---- a line

-- the number of the event that is told, if it is one
abbrev pub number_by : Result LineFacts LineFault → Option ℕ
number_by (Ok (told.Event number places)) = Some number
number_by (Ok told.Cut) = None
number_by (Err fault) = None

-- the number of the event that a line is of, if it is of one
abbrev pub number_in : List ℕ → Option ℕ
number_in line = number_by (facts_of line)

-- a line is of a cut capture
abbrev pub IsOfCut : List ℕ → Type 0
IsOfCut line = facts_of line ≡ Ok told.Cut

-- a line is of what comes
abbrev pub IsOf : Coming → List ℕ → Type 0
IsOf (coming.Event number) line = number_in line ≡ Some number
IsOf coming.Cut line = IsOfCut line
IsOf coming.Nothing line = ⊤

-- ---- what an output of lines holds more

-- a line of what comes
pub record AddsLine (comes : Coming) (old new : Option (List ℕ)) : Type 0 where
  pub line : List ℕ
  pub is : IsOf comes line
  pub added : Appends old new line

-- lines of so many events, numbered from 1 on
pub record AddsEvents (count : ℕ) (old new : Option (List ℕ)) : Type 0 where
  pub lines : List (List ℕ)
  pub numbered : map number_in lines ≡ map Some (range_with_len 1 count)
  pub added : Appends old new (concat lines)

-- lines of cut captures
pub record AddsCuts (old new : Option (List ℕ)) : Type 0 where
  pub lines : List (List ℕ)
  pub are : AllByRecursion IsOfCut lines
  pub added : Appends old new (concat lines)

-- lines of events, numbered 1, 2 and so on, and behind them lines of cut captures
pub record AddsNumbered (old new : Option (List ℕ)) : Type 0 where
  pub count : ℕ
  pub events : List (List ℕ)
  pub cuts : List (List ℕ)
  pub numbered : map number_in events ≡ map Some (range_with_len 1 count)
  pub are : AllByRecursion IsOfCut cuts
  pub added : Appends old new (concat events ++ concat cuts)

-- ---- what is left

-- in no part an event comes
abbrev pub HaveNoEvent : List OpenPart → Type 0
HaveNoEvent parts = (s : OpenPart) (k : ℕ) → k < length parts → IsNone (slice_index_or parts k s).coming

-- in no part a line does
abbrev pub AreRead : List OpenPart → Type 0
AreRead parts = (s : OpenPart) (k : ℕ) → k < length parts → (slice_index_or parts k s).coming ≡ coming.Nothing
