-- The text that says what a part of a run was made from and which outputs it has. It states no standard.
use Rattle.std.specs.Prelude.{◌≡◌, ◌≢◌, ◌⊎◌, ◌<◌, ◌≤◌, ℕ, ◌^◌, Bool, true, false, List, [], ◌∷◌, ◌++◌, length}
use Rattle.std.specs.Prelude.{slice_index, codes, decimal, All, Option, Some, None, IfSome, is_some}
use Rattle.hex.specs.Hex.{encode_lower}
use Rattle.timeline.specs.Words.{tap_word}
use Rattle.timeline.specs.declared.source.Tap.{Tap}
use Rattle.timeline.specs.declared.source.Tap.TheVariants as taps
use Rattle.part_record.specs.InTurn.{lines_in_turn}
use Rattle.part_record.specs.Outputs.{output_lines}
use Rattle.part_record.specs.Sum.{IsSum}
use Rattle.part_record.specs.Texts.{text_lines}
use Rattle.part_record.specs.declared.outputs.OutputFacts.{OutputFacts}
use Rattle.part_record.specs.declared.facts.PartRecord.{PartRecord}
use Rattle.part_record.specs.declared.texts.ToldTexts.{ToldTexts}

-- what a part of a run was made from: its segments, as they were asked for; the digests of the settings text, of the
-- changes text, where there was one, and of each port's capture and the underlay's; where these hold both directions, how many
-- nanoseconds behind its frame what the switch itself sent was left out; the number of events that the part tells
pub record Facts : Type 0 where
  pub segments : List ℕ
  pub settings : List ℕ
  pub changes : Option (List ℕ)
  pub ports : List (List ℕ)
  pub underlay : List ℕ
  pub both : Option ℕ
  pub events : ℕ

-- the facts that a record has
abbrev pub facts_of : PartRecord → Facts
facts_of r = record {
  segments = r.segments.now;
  settings = r.settings;
  changes = r.changes;
  ports = r.ports.items;
  underlay = r.underlay;
  both = r.both;
  events = r.events;
}

-- no line ends in this text
abbrev pub IsOneLine : List ℕ → Type 0
IsOneLine text = (i : ℕ) → i < length text → slice_index text i ≢ 10

-- a time that has its number, where there is one
abbrev pub IsTime : Option ℕ → Type 0
IsTime both = IfSome both (λ within. within < 2 ^ 64)

-- the facts that a record can tell
pub record IsRecord (f : Facts) : Type 0 where
  pub segments : IsOneLine f.segments
  pub settings : IsSum f.settings
  pub changes : IfSome f.changes IsSum
  pub ports : All IsSum f.ports
  pub few : length f.ports ≤ 255
  pub underlay : IsSum f.underlay
  pub both : IsTime f.both
  pub events : f.events < 2 ^ 64

-- a line: a word, and what it tells
abbrev pub line : List ℕ → List ℕ → List ℕ
line word told = word ++ (told ++ 10 ∷ [])

-- the line of a digest: 64 hexadecimal digits
abbrev pub sum_line : List ℕ → List ℕ → List ℕ
sum_line word sum = line word (encode_lower sum)

-- the first line, which says what the text is, and of which version: of a later one where it tells that captures hold both
-- directions, so that who doesn't know that line takes none of it
abbrev pub first_line : Bool → List ℕ
first_line false = codes "tep shard 4\n"
first_line true = codes "tep shard 5\n"

-- a text begins with the first line of a version before: the first told nothing of the outputs, the others had weaker sums
abbrev pub IsOlder : List ℕ → Type 0
IsOlder text =
    (rest : List ℕ)
    × ((text ≡ codes "tep shard 1\n" ++ rest) ⊎ ((text ≡ codes "tep shard 2\n" ++ rest) ⊎ (text ≡ codes "tep shard 3\n" ++ rest)))

abbrev pub segments_line : List ℕ → List ℕ
segments_line segments = line (codes "segments ") segments

abbrev pub settings_line : List ℕ → List ℕ
settings_line sum = sum_line (codes "settings ") sum

-- none where there were no changes
abbrev pub changes_line : Option (List ℕ) → List ℕ
changes_line None = []
changes_line (Some sum) = sum_line (codes "changes ") sum

-- the word of a capture's line, as `capture p1 `
abbrev pub capture_word : Tap → List ℕ
capture_word tap = codes "capture " ++ (tap_word tap ++ codes " ")

abbrev pub capture_line : Tap → List ℕ → List ℕ
capture_line tap sum = sum_line (capture_word tap) sum

-- the captures of the ports from this one on
abbrev pub port_lines : ℕ → List (List ℕ) → List ℕ
port_lines port sums = lines_in_turn (λ number sum. capture_line (taps.Port number) sum) port sums

-- none where the captures hold what came in alone
abbrev pub both_line : Option ℕ → List ℕ
both_line None = []
both_line (Some within) = line (codes "both ") (decimal within)

abbrev pub events_line : ℕ → List ℕ
events_line events = line (codes "events ") (decimal events)

-- the lines in front of those of the captures
abbrev pub before_captures : Facts → List ℕ
before_captures f = first_line (is_some f.both) ++ segments_line f.segments ++ settings_line f.settings ++ changes_line f.changes

-- the lines in front of the underlay's capture
abbrev pub before_underlay : Facts → List ℕ
before_underlay f = before_captures f ++ port_lines 1 f.ports

-- the lines up to the underlay's capture
abbrev pub with_captures : Facts → List ℕ
with_captures f = before_underlay f ++ capture_line taps.Underlay f.underlay

-- the lines in front of that of the events
abbrev pub before_events : Facts → List ℕ
before_events f = with_captures f ++ both_line f.both

-- the lines of the facts: one fact a line, in this order
abbrev pub facts_text : Facts → List ℕ
facts_text f = before_events f ++ events_line f.events

-- the text of a record, without the texts that the part left: the facts, and then the outputs
abbrev pub text_of : Facts → List OutputFacts → List ℕ
text_of f outputs = facts_text f ++ output_lines 0 outputs

-- and whole, with what is told of those
abbrev pub record_text : Facts → List OutputFacts → ToldTexts → List ℕ
record_text f outputs texts = text_of f outputs ++ text_lines texts
