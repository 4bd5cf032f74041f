-- The places that a result in a decision line says something was sent at. It states no standard.
use Rattle.std.specs.Prelude.{ℕ, ◌==◌, nat_lt, Bool, true, List, [], ◌∷◌, if◌then◌else◌, Option, Some, None, is_some}
use Rattle.std.specs.List.{filter_map, list_all}
use Rattle.std.specs.Option.{option_and_then, option_map_or}
use Rattle.timeline.specs.declared.source.Tap.{Tap}
use Rattle.timeline.specs.declared.source.Tap.TheVariants.{Port, Underlay}
use Rattle.line_words.specs.Numbers.{number_of}
use Rattle.part_lines.specs.Words.{words, before_equals}

-- the port of this number, where there can be one
abbrev pub port_at : ℕ → Option Tap
port_at number = if nat_lt number 256 then Some (Port number) else None

-- the capture that a place's records stand in: `p2` is a port, and any other place the address of a remote endpoint
abbrev pub tap_of : List ℕ → Option Tap
tap_of [] = None
tap_of (c ∷ cs) = if c == 112 then option_and_then port_at (number_of cs) else Some Underlay

-- a word of a result with a '=' in it was sent at the place before that; with no other word anything is sent
abbrev pub sent_by : List ℕ → Option Tap
sent_by text = option_and_then tap_of (before_equals text)

-- where a result says that a frame was sent, in order
abbrev pub sent_in : List ℕ → List Tap
sent_in text = filter_map sent_by (words text)

-- a word with a '=' in it has a place before that
abbrev pub is_sound : List ℕ → Bool
is_sound text = option_map_or (λ place. is_some (tap_of place)) (before_equals text) true

-- each word has
abbrev pub has_places : List ℕ → Bool
has_places text = list_all is_sound (words text)
