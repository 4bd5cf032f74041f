-- What a file that is read, or standard input, has left. It states no standard.
use Rattle.std.specs.Prelude.{ℕ, List, Option}
use Rattle.program_files.specs.declared.inputs.Device.{Device}
use Rattle.program_files.specs.declared.inputs.Device.TheVariants.{File, Standard}

-- by what a file tells of the octets that it has left, and what standard input does
abbrev pub left_in : {F I : Type 0} → (F → Option (List ℕ)) → (I → Option (List ℕ)) → Device F I → Option (List ℕ)
left_in files input (File file) = files file
left_in files input (Standard standard) = input standard
