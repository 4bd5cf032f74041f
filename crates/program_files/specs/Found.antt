-- Files that were found, by the places where they stand. It states no standard.
use Rattle.std.specs.Prelude.{◌==◌, ◌&&◌, ℕ, Bool, List, Option, option_map, position, slice_get}
use Rattle.std.specs.Option.{option_and_then}
use Rattle.program_files.specs.declared.found_files.Found.{Found}
use Rattle.program_files.specs.declared.found_files.Place.{Place}

-- two files stand at one place: on one device, with one number there
abbrev pub is_one : Place → Place → Bool
is_one a b = (a.device == b.device) && (a.number == b.number)

-- the number of the first of some files that stands at a place
abbrev pub first_at : {T : Type 0} → Place → List (Found T) → Option ℕ
first_at place files = position (λ file. is_one file.place place) files

-- what that file is
abbrev pub what_at : {T : Type 0} → Place → List (Found T) → Option T
what_at place files = option_and_then (λ number. option_map (λ file. file.what) (slice_get files number)) (first_at place files)
