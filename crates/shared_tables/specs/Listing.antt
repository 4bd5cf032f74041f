-- The live entries of a segment, as the slots have them. It serves proofs.
use Rattle.std.specs.Prelude.{◌≡◌, ℕ, ◌+◌, ◌*◌, ◌/◌, ◌%◌, ◌&&◌, Bool, true, false, List, ◌++◌}
use Rattle.std.specs.Prelude.{length, map, Option, Some, None, IsSome, nat_eq, if◌then◌else◌}
use Rattle.std.specs.List.{All, filter_map}
use Rattle.std.specs.Slice.Scan.{big_endian}
use Rattle.std.specs.FinMap.{from_entries}
use Rattle.std.specs.Option.{option_map}
use Rattle.filter_db.specs.declared.entry.Entry.{Entry}
use Rattle.filter_db.specs.Table.{is_live, mac_cmp}
use Rattle.filter_db.specs.Rows.{Rows, AreUnique}
use Rattle.wire.specs.Octets.{IsText}
use Rattle.shared_tables.specs.Line.{IsApart, is_on}
use Rattle.shared_tables.specs.Pool.{Held, entry_at}
use Rattle.shared_tables.specs.Shared.{line_key}
use Rattle.shared_tables.specs.Segments.{entry_of}

-- the row of what a slot holds, if it is of the segment, and live at a moment under an ageing in nanoseconds
abbrev pub live_row : ℕ → ℕ → ℕ → Option Held → Option (List ℕ × Entry)
live_row vid ageing now None = None
live_row vid ageing now (Some e) = if nat_eq e.vid vid && is_live ageing now (entry_of e) then Some (e.mac, entry_of e) else None

-- its entry, if it is of the segment and live
abbrev pub live_entry : ℕ → ℕ → ℕ → Option Held → Option Entry
live_entry vid ageing now o = option_map (λ (row : List ℕ × Entry). row.1) (live_row vid ageing now o)

-- the rows of slots
abbrev pub live_rows : ℕ → ℕ → ℕ → List (Option Held) → Rows
live_rows vid ageing now entries = filter_map (live_row vid ageing now) entries

-- the slots that hold the fixed entries of a segment, or those of its age queue, each once
pub record AreSlotsOf (entries : List (Option Held)) (vid : ℕ) (fixed : Bool) (slots : List ℕ) : Type 0 where
  pub apart : IsApart slots
  pub members : (i : ℕ) → is_on i slots ≡ line_key vid fixed (entry_at entries i)

-- the live ones among those entries stand behind other rows
pub record ListsLine (entries : List (Option Held)) (vid : ℕ) (fixed : Bool) (ageing now : ℕ) (old new : Rows) : Type 0 where
  pub slots : List ℕ
  pub all : AreSlotsOf entries vid fixed slots
  pub rows : new ≡ old ++ live_rows vid ageing now (map (entry_at entries) slots)

-- rows have each address once, and make the table that the live ones of all slots make
pub record HasLive (entries : List (Option Held)) (vid ageing now : ℕ) (rows : Rows) : Type 0 where
  pub unique : AreUnique rows
  pub table : from_entries {R = mac_cmp} rows ≡ from_entries {R = mac_cmp} (live_rows vid ageing now entries)

-- so many entries of a segment are live, of those of its age queue and the fixed ones together
pub record CountsLive (entries : List (Option Held)) (vid ageing now told : ℕ) : Type 0 where
  pub queue : List ℕ
  pub fixed : List ℕ
  pub aged : AreSlotsOf entries vid false queue
  pub others : AreSlotsOf entries vid true fixed
  pub count : length (live_rows vid ageing now (map (entry_at entries) queue))
      + length (live_rows vid ageing now (map (entry_at entries) fixed)) ≡ told

-- an address as a number, its first octet the highest
abbrev pub number_of : List ℕ → ℕ
number_of mac = big_endian 0 mac

-- six octets
abbrev pub IsAddress : List ℕ → Type 0
IsAddress mac = (length mac ≡ 6) × IsText mac

-- the word of a slot's row: the address times 1,048,576 plus the slot's number
abbrev pub word_of : ℕ → Option (List ℕ × Entry) → Option ℕ
word_of slot row = option_map (λ (r : List ℕ × Entry). number_of r.0 * 1048576 + slot) row

-- the row of the slot whose number a word tells
abbrev pub row_in : List (Option Held) → ℕ → ℕ → ℕ → ℕ → Option (List ℕ × Entry)
row_in entries vid ageing now word = live_row vid ageing now (entry_at entries (word % 1048576))

-- the rows of words
abbrev pub rows_in : List (Option Held) → ℕ → ℕ → ℕ → List ℕ → Rows
rows_in entries vid ageing now words = filter_map (row_in entries vid ageing now) words

-- what a slot holds, with its address
abbrev pub row_of : Option Held → Option (List ℕ × Entry)
row_of o = option_map (λ (e : Held). (e.mac, entry_of e)) o

-- the rows of what the slots hold whose numbers words tell
abbrev pub held_rows : List (Option Held) → List ℕ → Rows
held_rows entries words = filter_map (λ word. row_of (entry_at entries (word % 1048576))) words

-- each of those slots holds an entry
abbrev pub AreHeld : List (Option Held) → List ℕ → Type 0
AreHeld entries words = All (λ word. IsSome (entry_at entries (word % 1048576))) words

-- there is a row, and a word has its address in front
abbrev pub HasAddress : ℕ → Option (List ℕ × Entry) → Type 0
HasAddress word None = ⊥
HasAddress word (Some row) = IsAddress row.0 × (word / 1048576 ≡ number_of row.0)

-- a word is the address of a live entry of the segment times 1,048,576 plus the number of its slot
abbrev pub IsWord : List (Option Held) → ℕ → ℕ → ℕ → ℕ → Type 0
IsWord entries vid ageing now word = HasAddress word (row_in entries vid ageing now word)

-- each of them is one
abbrev pub AreWords : List (Option Held) → ℕ → ℕ → ℕ → List ℕ → Type 0
AreWords entries vid ageing now words = All (IsWord entries vid ageing now) words
