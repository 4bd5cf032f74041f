-- What is told of the key of a fault. It states no standard.
use Rattle.std.specs.Prelude.{ℕ, List, [], ◌∷◌, map, ◌||◌, ◌==◌, Option, Some, None, option_map, option_and_then, codes, if◌then◌else◌}
use Rattle.text_advice.specs.Line.{word, bare, past_blanks, is_header, child_on, value}
use Rattle.text_advice.specs.Search.{Line, Block, top, key_line, unknown_line, table_name, unknown_table, table_line}
use Rattle.text_advice.specs.Path.{Spot, plain, target}
use Rattle.text_advice.specs.Place.{place_in}
use Rattle.text_advice.specs.Known.{keys_of}
use Rattle.text_advice.specs.Allowed.{sentence_of}
use Rattle.text_advice.specs.Near.{nearest, or_else}
use Rattle.text_advice.specs.declared.place.Place.{Place}
use Rattle.text_advice.specs.declared.known.TextKind.{TextKind}
use Rattle.text_advice.specs.declared.known.TextKind.TheVariants.{Settings, Changes}
use Rattle.text_advice.specs.declared.told.Findings as code

-- where the key stands, what was found there, the key that was meant, the keys of the table where the fault is of one that it
-- doesn't have, and what is allowed
pub record Findings : Type 0 where
  pub place : Option Place
  pub found : Option (List ℕ)
  pub near : Option (List ℕ)
  pub keys : List (List ℕ)
  pub allowed : Option (List ℕ)

-- what the code holds of it
abbrev pub told_of : code.Findings → Findings
told_of t = record {
  place = t.place;
  found = option_map (λ f. f.now) t.found;
  near = option_map (λ k. k.now) t.near;
  keys = map (λ k. k.now) t.keys.now;
  allowed = option_map (λ s. s.now) t.allowed;
}

-- a text without the quote in front
abbrev pub past_quote : List ℕ → List ℕ
past_quote [] = []
past_quote (c ∷ cs) = if (c == 34) || (c == 39) then cs else c ∷ cs

-- the word with which a value begins, where there is one
abbrev pub word_of : Option (List ℕ) → List ℕ
word_of None = []
word_of (Some v) = bare (past_quote v)

-- the word with which the value on a line begins
abbrev pub value_word : Option Line → List ℕ
value_word line = word_of (option_and_then (λ l. value l.text) line)

-- what a text says it is: settings their version; of changes a table its kind, or where it says none the text its version
abbrev pub variant : TextKind → Block → Block → List ℕ
variant Settings whole table = value_word (key_line (codes "version") whole)
variant Changes whole table = value_word (or_else (key_line (codes "kind") table) (key_line (codes "version") whole))

-- the line of a key, or else the header of a table of its name; none where the block's own table is meant
abbrev pub named_line : List ℕ → Block → Option Line
named_line [] b = None
named_line (c ∷ cs) b = or_else (key_line (c ∷ cs) b) (table_line (c ∷ cs) b)

-- the line of a fault's key; where it is one that isn't among the table's keys, the first of these, or else the first header
-- of a table that isn't among them
abbrev pub spot_line : List (List ℕ) → Spot → Option Line
spot_line [] s = named_line s.key s.block
spot_line (k ∷ ks) s = or_else (unknown_line (k ∷ ks) s.block) (unknown_table (k ∷ ks) s.block)

-- where a header stands; nowhere for the front of the text
abbrev pub header_place : Line → Option Place
header_place header = if header.number == 0 then None else Some (place_in header)

-- what there is, or else the other
abbrev pub or_text : Option (List ℕ) → List ℕ → List ℕ
or_text None other = other
or_text (Some text) other = text

-- the key that a line of a header's table gives a value, or the name that the table it opens has there
abbrev pub key_on : Line → Line → List ℕ
key_on header l = or_text (child_on (table_name header) l.text) (word l.text)

-- the value of a key or the header of its table, or the key itself where it isn't one of the table's
abbrev pub found_on : List (List ℕ) → Line → Line → List ℕ
found_on [] header l = if is_header l.text then past_blanks l.text else or_text (value l.text) []
found_on (k ∷ ks) header l = key_on header l

-- by the line of the key, or else by its table's header
abbrev pub at_line : List (List ℕ) → Option (List ℕ) → Line → Option Line → Findings
at_line keys allowed header None = record { place = header_place header; found = None; near = None; keys = keys; allowed = allowed }
at_line keys allowed header (Some l) = record {
  place = Some (place_in l);
  found = Some (found_on keys header l);
  near = nearest (key_on header l) keys;
  keys = keys;
  allowed = allowed;
}

-- by the table that the search finds, or doesn't
abbrev pub told_at : TextKind → Block → List ℕ → List ℕ → Option Spot → Findings
told_at kind whole path fault None =
    let v = variant kind whole whole in
    at_line (keys_of kind path v) (sentence_of kind path v fault) whole.header None
told_at kind whole path fault (Some s) =
    let v = variant kind whole s.block in
    let keys = keys_of kind path v in
    at_line keys (sentence_of kind path v fault) s.block.header (spot_line keys s)

-- of the key of a path, in a text of these lines, for a fault
abbrev pub told : TextKind → List (List ℕ) → List (List ℕ) → List ℕ → Findings
told kind lines parts fault = told_at kind (top lines) (plain [] parts) fault (target [] (top lines) parts)
