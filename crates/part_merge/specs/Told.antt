-- What a part keeps of a line that it read; it serves the contracts of the merge's parts.
use Rattle.std.specs.Prelude.{◌≡◌, ℕ, List, Result, Ok, Err}
use Rattle.part_lines.specs.Facts.{facts_of}
use Rattle.part_lines.specs.Parts.{places_in}
use Rattle.part_lines.specs.declared.facts.LineFacts.TheVariants.{Event}
use Rattle.part_merge.specs.declared.fault.MergeFault.{MergeFault}
use Rattle.part_merge.specs.declared.coming.Coming.{Coming}
use Rattle.part_merge.specs.declared.coming.Told.{Told}

-- it is an event's line, and its result begins there
pub record IsPlaced (line : List ℕ) (at : ℕ) : Type 0 where
  pub number : ℕ
  pub told : facts_of line ≡ Ok (Event number (places_in line at))

-- what the line is of, as far as it can be read
abbrev pub coming_told : Result Told MergeFault → Result Coming MergeFault
coming_told (Ok told) = Ok told.coming
coming_told (Err fault) = Err fault
