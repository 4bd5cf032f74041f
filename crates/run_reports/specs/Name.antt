-- The names of the events of a run, as a user gives them. It states no standard.
use Rattle.std.specs.Prelude.{ℕ, ◌||◌, Bool, List, ◌++◌, codes, decimal}
use Rattle.std.specs.Str.{bytes_eq}
use Rattle.timeline.specs.Words.{source_of, source_word}
use Rattle.timeline.specs.declared.event.Event.{Event}

-- by the source and the number of the change or record there, from 1: p2:7, u:13, c:1
abbrev pub name_of : Event → List ℕ
name_of e = source_word (source_of e.happening) ++ codes ":" ++ decimal e.number

-- or by the number in the run, from 1
abbrev pub is_named : List ℕ → ℕ → Event → Bool
is_named name number e = bytes_eq name (decimal number) || bytes_eq name (name_of e)
