-- Why a text was refused, as it is told: a line with the file, the place and the fault, and below it what was found, the key
-- that was meant, the keys of the table, and what is allowed. It states no standard.
use Rattle.std.specs.Prelude.{ℕ, ◌-◌, string_bytes, get_or, length, List, [], ◌∷◌, ◌++◌, map, take}
use Rattle.std.specs.Prelude.{nat_le, ◌&&◌, ◌||◌, ◌==◌, Option, Some, None, codes, decimal, if◌then◌else◌}
use Rattle.config_text.specs.declared.fault.SettingsFault.{SettingsFault}
use Rattle.config_text.specs.declared.fault.SettingsFault.TheVariants.{NotToml, Missing, BadValue, TwoSegments}
use Rattle.config_text.specs.declared.fault.SettingsFault.TheVariants.{NotRising, OverLimit, OutOfMemory}
use Rattle.text_advice.specs.Split.{split}
use Rattle.text_advice.specs.Place.{place_behind}
use Rattle.text_advice.specs.Told.{Findings, told}
use Rattle.text_advice.specs.declared.place.Place.{Place}
use Rattle.text_advice.specs.declared.known.TextKind.{TextKind}
use Rattle.text_advice.specs.declared.syntax.SyntaxError as code

-- the name of a fault, and its path
abbrev pub fault_words : SettingsFault → List ℕ × List ℕ
fault_words NotToml = (codes "NotToml", [])
fault_words (Missing path) = (codes "Missing ", path)
fault_words (BadValue path) = (codes "BadValue ", path)
fault_words (TwoSegments path) = (codes "TwoSegments ", path)
fault_words (NotRising path) = (codes "NotRising ", path)
fault_words (OverLimit path) = (codes "OverLimit ", path)
fault_words OutOfMemory = (codes "OutOfMemory", [])

-- a character as a terminal can show it: a tab or a carriage return as a space, and what isn't printable ASCII as '?'
abbrev pub shown : ℕ → ℕ
shown c = if nat_le 32 c && nat_le c 126 then c else (if (c == 9) || (c == 13) then 32 else 63)

-- a line and a column, where they are known
abbrev pub place_text : Option Place → List ℕ
place_text None = []
place_text (Some p) = codes ":" ++ decimal p.line ++ codes ":" ++ decimal p.column

-- the line of a fault
abbrev pub head_line : List ℕ → Option Place → List ℕ × List ℕ → List ℕ
head_line name place words = name ++ place_text place ++ codes ": " ++ words.0 ++ words.1 ++ codes "\n"

-- a line that tells one thing
abbrev pub told_line : List ℕ → List ℕ → List ℕ → List ℕ
told_line label text end = label ++ map shown text ++ end

-- a line that tells one thing, where it is known
abbrev pub part : List ℕ → Option (List ℕ) → List ℕ
part label None = []
part label (Some text) = told_line label text (codes "\n")

-- keys, each behind a space
abbrev pub key_words : List (List ℕ) → List ℕ
key_words [] = []
key_words (k ∷ ks) = codes " " ++ k ++ key_words ks

-- the keys of a table
abbrev pub keys_line : List (List ℕ) → List ℕ
keys_line [] = []
keys_line (k ∷ ks) = codes "  keys:" ++ key_words (k ∷ ks) ++ codes "\n"

-- how a line ends of which 60 octets are shown
abbrev pub end_of : List ℕ → List ℕ
end_of text = if nat_le (length text) 60 then codes "\n" else codes " ...\n"

-- what was found, of which at most 60 octets are shown
abbrev pub found_line : Option (List ℕ) → List ℕ
found_line None = []
found_line (Some text) = told_line (codes "  found: ") (take 60 text) (end_of text)

-- the lines below that of the fault
abbrev pub told_lines : Findings → List ℕ
told_lines t = found_line t.found ++ part (codes "  did you mean: ") t.near ++ keys_line t.keys ++ part (codes "  allowed: ") t.allowed

-- what is told, and the words of the fault
abbrev pub told_text : List ℕ → List ℕ × List ℕ → Findings → List ℕ
told_text name words t = head_line name t.place words ++ told_lines t

-- of a fault that has a path
abbrev pub key_advice : TextKind → List ℕ → List ℕ → List ℕ × List ℕ → List ℕ
key_advice kind name text words = told_text name words (told kind (split 10 text) (split 46 words.1) words.0)

-- ---- texts that are no TOML

-- where and why a text stops being TOML: how many octets stand before the place, and the parser's words
pub record Syntax : Type 0 where
  pub before : ℕ
  pub reason : List ℕ

-- what the code holds of it
abbrev pub syntax_of : code.SyntaxError → Syntax
syntax_of e = record { before = e.before; reason = string_bytes e.reason }

-- the line of a number from 1
abbrev pub line_numbered : ℕ → List (List ℕ) → List ℕ
line_numbered number lines = get_or lines (number - 1) []

-- the place, its line, and why
abbrev pub syntax_lines : List ℕ → List ℕ → List ℕ → Place → List ℕ → List ℕ
syntax_lines name text word p reason =
    head_line name (Some p) (word, []) ++ found_line (Some (line_numbered p.line (split 10 text)))
    ++ part (codes "  reason: ") (Some reason)

abbrev pub syntax_advice : List ℕ → List ℕ → List ℕ → Option Syntax → List ℕ
syntax_advice name text word None = head_line name None (word, [])
syntax_advice name text word (Some e) = syntax_lines name text word (place_behind 1 1 (take e.before text)) e.reason

-- ---- all

-- by the path, where there is one
abbrev pub advice_by : TextKind → List ℕ → List ℕ → Option Syntax → List ℕ → List ℕ → List ℕ
advice_by kind name text at word [] = syntax_advice name text word at
advice_by kind name text at word (c ∷ cs) = key_advice kind name text (word, c ∷ cs)

-- all that is told of a text's fault; `at` is where a text that is no TOML stops being so
abbrev pub advice : TextKind → List ℕ → List ℕ → List ℕ × List ℕ → Option Syntax → List ℕ
advice kind name text words at = advice_by kind name text at words.0 words.1
