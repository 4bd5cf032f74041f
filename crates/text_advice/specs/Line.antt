-- Lines of a text, and the words and names in them. It states no standard.
use Rattle.std.specs.Prelude.{ℕ, List, [], ◌∷◌, length, take, drop, nat_eq, nat_le, Bool, false, ◌&&◌, ◌||◌}
use Rattle.std.specs.Prelude.{◌==◌, Option, Some, None, is_some, option_map, option_and_then, if◌then◌else◌}
use Rattle.std.specs.Cmp.Lexicographic.{pointwise}
use Rattle.config_text.specs.Address.{cut}

-- one text is the other
abbrev pub same : List ℕ → List ℕ → Bool
same a b = pointwise nat_eq a b

-- an octet of the byte order mark that may stand in front of a text: EF BB BF
abbrev pub is_mark : ℕ → Bool
is_mark c = (c == 239) || ((c == 187) || (c == 191))

-- a space, a tab, the carriage return that may end a line, or an octet of the mark
abbrev pub is_blank : ℕ → Bool
is_blank c = ((c == 32) || ((c == 9) || (c == 13))) || is_mark c

-- 'a' to 'z', 'A' to 'Z'
abbrev pub is_letter : ℕ → Bool
is_letter c = (nat_le 97 c && nat_le c 122) || (nat_le 65 c && nat_le c 90)

-- a text without the blanks in front
abbrev pub past_blanks : List ℕ → List ℕ
past_blanks [] = []
past_blanks (c ∷ cs) = if is_blank c then past_blanks cs else c ∷ cs

-- a character of a bare key (TOML, Keys): a letter, a digit, '_' or '-'
abbrev pub is_bare : ℕ → Bool
is_bare c = is_letter c || ((nat_le 48 c && nat_le c 57) || ((c == 95) || (c == 45)))

-- the bare key with which a text begins
abbrev pub bare : List ℕ → List ℕ
bare [] = []
bare (c ∷ cs) = if is_bare c then c ∷ bare cs else []

-- the bare key with which a line begins; of a dotted key the first part
abbrev pub word : List ℕ → List ℕ
word line = bare (past_blanks line)

-- the dotted bare keys with which a text begins
abbrev pub dotted : List ℕ → List ℕ
dotted [] = []
dotted (c ∷ cs) = if is_bare c || (c == 46) then c ∷ dotted cs else []

-- a text begins as a name does, with a letter
abbrev pub is_name : List ℕ → Bool
is_name [] = false
is_name (c ∷ cs) = is_letter c

-- a text that is a name
abbrev pub named : List ℕ → Option (List ℕ)
named text = if is_name text then Some text else None

-- what stands behind a second opening bracket, where there is one
abbrev pub past_bracket : List ℕ → List ℕ
past_bracket [] = []
past_bracket (c ∷ cs) = if c == 91 then cs else c ∷ cs

-- the name behind one or two opening brackets
abbrev pub bracketed : List ℕ → Option (List ℕ)
bracketed [] = None
bracketed (c ∷ cs) = if c == 91 then named (dotted (past_blanks (past_bracket cs))) else None

-- the name in the brackets of a table's header, [name] or [[name]], where the line is one
abbrev pub header_name : List ℕ → Option (List ℕ)
header_name line = bracketed (past_blanks line)

-- what may be there is this text
abbrev pub is_text : List ℕ → Option (List ℕ) → Bool
is_text text None = false
is_text text (Some found) = same text found

-- the line is the header of a table of this name
abbrev pub opens : List ℕ → List ℕ → Bool
opens name line = is_text name (header_name line)

-- the line is the header of any table
abbrev pub is_header : List ℕ → Bool
is_header line = is_some (header_name line)

-- what stands behind a text, where the other begins with it
abbrev pub behind : List ℕ → List ℕ → Option (List ℕ)
behind front text = if same (take (length front) text) front then Some (drop (length front) text) else None

-- the bare key behind a dot
abbrev pub past_dot : List ℕ → Option (List ℕ)
past_dot [] = None
past_dot (c ∷ cs) = if c == 46 then Some (bare cs) else None

-- of a dotted name the part behind that of the table around it, where it is in that table
abbrev pub child : List ℕ → List ℕ → Option (List ℕ)
child [] name = Some (bare name)
child (c ∷ cs) name = option_and_then past_dot (behind (c ∷ cs) name)

-- the name that a header's table has in the table around it
abbrev pub child_on : List ℕ → List ℕ → Option (List ℕ)
child_on around line = option_and_then (child around) (header_name line)

-- what stands behind the line's equals sign, without the blanks in front
abbrev pub value : List ℕ → Option (List ℕ)
value line = option_map (λ h. past_blanks h.1) (cut 61 line)

-- the line gives a key a value
abbrev pub is_key_line : List ℕ → Bool
is_key_line line = is_name (word line) && is_some (value line)
