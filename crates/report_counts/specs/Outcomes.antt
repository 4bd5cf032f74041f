-- What came of a frame at its places, as a decision line tells it: `p2=60 192.0.2.2!TooBig`. It states no standard.
use Rattle.std.specs.Prelude.{ℕ, ◌+◌, ◌==◌, nat_le, nat_lt, Bool, ◌&&◌, ◌||◌, if◌then◌else◌, List, length, take, drop}
use Rattle.std.specs.Prelude.{slice_index, position, Option, Some, None, is_some, option_map}
use Rattle.std.specs.List.{filter_map, list_all}
use Rattle.std.specs.Option.{option_and_then}
use Rattle.wire.specs.Octets.{is_same}
use Rattle.wire.specs.Reason.{name_of, number_of as number_for}
use Rattle.wire.specs.declared.ether.reason.Reason.TheVariants.{TooBig, InnerTagOut}
use Rattle.line_words.specs.Numbers.{number_of}
use Rattle.part_lines.specs.Words.{words}
use Rattle.report_counts.specs.declared.outcomes.Leaving.{Leaving}
use Rattle.report_counts.specs.declared.outcomes.Passage.{Passage}
use Rattle.report_counts.specs.declared.outcomes.Passage.TheVariants.{Left, Unsent}

-- the text of a place, and what came of a frame there
pub record Told : Type 0 where
  pub place : List ℕ
  pub passage : Passage

-- of what is handed out
abbrev pub told : Leaving → Told
told l = record { place = l.place.now; passage = l.passage }

-- '=' stands before the octets that left, and '!' before the reason why none did
abbrev pub is_mark : ℕ → Bool
is_mark c = (c == 61) || (c == 33)

-- the number of the reason of this name, of those for which nothing leaves at a place
abbrev pub reason_named : List ℕ → Option ℕ
reason_named name =
    if is_same name (name_of TooBig) then Some (number_for TooBig)
    else if is_same name (name_of InnerTagOut) then Some (number_for InnerTagOut) else None

-- what stands behind a mark
abbrev pub passage_of : ℕ → List ℕ → Option Passage
passage_of mark text =
    if mark == 61 then option_map (λ octets. Left octets) (number_of text) else option_map (λ reason. Unsent reason) (reason_named text)

-- the text of a place has 1 to 55 octets
abbrev pub has_place_length : ℕ → Bool
has_place_length count = nat_lt 0 count && nat_le count 55

-- what a word tells with a mark there: a place before it, and what came of a frame behind
abbrev pub outcome_by : List ℕ → ℕ → Option Told
outcome_by word at =
    if has_place_length at then
    option_map (λ passage. record { place = take at word; passage = passage }) (passage_of (slice_index word at) (drop (at + 1) word))
    else None

-- what a word tells, by its first mark
abbrev pub outcome_of : List ℕ → Option Told
outcome_of word = option_and_then (outcome_by word) (position is_mark word)

-- what the words of a text tell, in order
abbrev pub outcomes_in : List ℕ → List Told
outcomes_in text = filter_map outcome_of (words text)

-- a word is empty or tells an outcome
abbrev pub is_outcome : List ℕ → Bool
is_outcome word = (length word == 0) || is_some (outcome_of word)

-- each word does
abbrev pub are_outcomes : List ℕ → Bool
are_outcomes text = list_all is_outcome (words text)
