-- What files in memory tell. It states no standard.
--     file_left      what a file has left
--     file_holds      what stands in it
--     input_left      what standard input has left
--     StandsUnder      octets stand in the memory under a name
use Rattle.std.specs.Prelude.{◌≡◌, ◌<◌, ℕ, List, [], length, slice_index_or, Option, Some}
use Rattle.std.specs.Borrow.{Bor}
use Rattle.runs_in_memory.specs.declared.files.memory_file.MemoryFile.{MemoryFile}
use Rattle.runs_in_memory.specs.declared.files.memory.NamedText.{NamedText}

-- what a file has left
abbrev pub file_left : MemoryFile → Option (List ℕ)
file_left file = Some file.left.now

-- what stands in it
abbrev pub file_holds : MemoryFile → Option (List ℕ)
file_holds file = Some file.held.items

-- what standard input has left
abbrev pub input_left : Bor (List ℕ) → Option (List ℕ)
input_left input = Some input.now

-- these octets stand in the memory under this name
pub record StandsUnder (files : List NamedText) (name octets : List ℕ) : Type 0 where
  pub file : NamedText
  pub among : (index : ℕ) × (index < length files) × (file ≡ slice_index_or files index file)
  pub named : name ≡ file.name.now
  pub octets_are : octets ≡ file.octets.now
