-- Where a table and its keys stand in the lines of a text. It states no standard.
use Rattle.std.specs.Prelude.{ℕ, ◌+◌, List, [], ◌∷◌, map, Bool, false, true, not, ◌&&◌, Option, Some, None, decimal, if◌then◌else◌}
use Rattle.text_advice.specs.Line.{same, word, is_text, header_name, opens, is_header, child_on, is_key_line}
use Rattle.text_advice.specs.declared.block.Line as code_line
use Rattle.text_advice.specs.declared.block.Block as code_block

-- a line and its number, from 1; 0 is the place in front of the first line
pub record Line : Type 0 where
  pub number : ℕ
  pub text : List ℕ

-- the header of a table, and all lines behind it
pub record Block : Type 0 where
  pub header : Line
  pub lines : List (List ℕ)

-- a whole text
abbrev pub top : List (List ℕ) → Block
top lines = record { header = record { number = 0; text = [] }; lines = lines }

-- what the code holds of these
abbrev pub line_of : code_line.Line → Line
line_of l = record { number = l.number; text = l.text.now }

abbrev pub block_of : code_block.Block → Block
block_of b = record { header = line_of b.header; lines = map (λ l. l.now) b.lines.now }

-- ---- tables

-- behind so many lines and so many tables of the name: the table of the name whose number is written so, in front of the
-- next table of the name around it
abbrev pub table_at : List ℕ → List ℕ → List ℕ → ℕ → ℕ → List (List ℕ) → Option Block
table_at around name digits count n [] = None
table_at around name digits count n (l ∷ ls) =
    if opens around l then None
    else (if opens name l
    then (if same (decimal (count + 1)) digits
    then Some (record { header = record { number = n + 1; text = l }; lines = ls })
    else table_at around name digits (count + 1) (n + 1) ls)
    else table_at around name digits count (n + 1) ls)

-- the table of a name and a number, from 1, within the one around it
abbrev pub table_in : List ℕ → List ℕ → List ℕ → Block → Option Block
table_in around name digits b = table_at around name digits 0 b.header.number b.lines

-- ---- lines of a table: those in front of the next header

-- the first that begins with a key
abbrev pub key_at : List ℕ → ℕ → List (List ℕ) → Option Line
key_at key n [] = None
key_at key n (l ∷ ls) =
    if is_header l then None
    else (if same (word l) key then Some (record { number = n + 1; text = l }) else key_at key (n + 1) ls)

-- the line of a key
abbrev pub key_line : List ℕ → Block → Option Line
key_line key b = key_at key b.header.number b.lines

-- the word is one of these
abbrev pub is_among : List ℕ → List (List ℕ) → Bool
is_among w [] = false
is_among w (k ∷ ks) = if same w k then true else is_among w ks

-- the first that gives a value to a key that isn't one of these
abbrev pub unknown_at : List (List ℕ) → ℕ → List (List ℕ) → Option Line
unknown_at keys n [] = None
unknown_at keys n (l ∷ ls) =
    if is_header l then None
    else (if is_key_line l && not (is_among (word l) keys) then Some (record { number = n + 1; text = l }) else unknown_at keys (n + 1) ls)

-- the line of a key that isn't one of these
abbrev pub unknown_line : List (List ℕ) → Block → Option Line
unknown_line keys b = unknown_at keys b.header.number b.lines

-- the name of a header's table; none in front of the first
abbrev pub name_or_none : Option (List ℕ) → List ℕ
name_or_none None = []
name_or_none (Some name) = name

abbrev pub table_name : Line → List ℕ
table_name header = name_or_none (header_name header.text)

-- what may be there is none of these
abbrev pub is_none_of : List (List ℕ) → Option (List ℕ) → Bool
is_none_of keys None = false
is_none_of keys (Some name) = not (is_among name keys)

-- the first header of a table, within the one around it, whose name there isn't one of these
abbrev pub unknown_table_at : List (List ℕ) → List ℕ → ℕ → List (List ℕ) → Option Line
unknown_table_at keys around n [] = None
unknown_table_at keys around n (l ∷ ls) =
    if opens around l then None
    else (if is_none_of keys (child_on around l) then Some (record { number = n + 1; text = l })
    else unknown_table_at keys around (n + 1) ls)

abbrev pub unknown_table : List (List ℕ) → Block → Option Line
unknown_table keys b = unknown_table_at keys (table_name b.header) b.header.number b.lines

-- the first header of a table, within the one around it, that has this name there
abbrev pub table_line_at : List ℕ → List ℕ → ℕ → List (List ℕ) → Option Line
table_line_at key around n [] = None
table_line_at key around n (l ∷ ls) =
    if opens around l then None
    else (if is_text key (child_on around l) then Some (record { number = n + 1; text = l }) else table_line_at key around (n + 1) ls)

abbrev pub table_line : List ℕ → Block → Option Line
table_line key b = table_line_at key (table_name b.header) b.header.number b.lines
