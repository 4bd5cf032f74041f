-- The keys of a table, each with its column, and lists of tables. It states no standard.
use Rattle.std.specs.Prelude.{ℕ, ◌≤◌, List, [], ◌∷◌, ◌++◌, length, nat_eq, nat_lt, Bool, true, ◌&&◌, Option}
use Rattle.std.specs.Prelude.{Some, None, is_some, option_map, Ok, Err, codes, decimal, ◌+◌, if◌then◌else◌}
use Rattle.std.specs.List.{list_any}
use Rattle.std.specs.Cmp.Lexicographic.{pointwise}
use Rattle.toml.specs.Data.{Data, Items, no_items, item, Members, no_members, member, get_member, as_table, as_array}
use Rattle.config_text.specs.declared.fault.SettingsFault.{SettingsFault}
use Rattle.config_text.specs.declared.fault.SettingsFault.TheVariants.{Missing, BadValue, OverLimit}
use Rattle.config_text.specs.Fault.{Meaning, ◌>>=◌}
use Rattle.config_text.specs.Column.{gathered}

-- a table, and what stands before its keys in their paths
pub record Place : Type 0 where
  pub prefix : List ℕ
  pub members : Members

-- a whole document
abbrev pub top : Members → Place
top members = record { prefix = []; members = members }

-- the path of a key
abbrev pub path : Place → List ℕ → List ℕ
path at key = at.prefix ++ key

-- a rule
abbrev pub refuse_if : Bool → SettingsFault → Meaning (Unit {0})
refuse_if b fault = if b then Err fault else Ok tt

-- ---- one key

-- a value that is there, by its column
abbrev pub fits : {A : Type 0} → List ℕ → Option A → Meaning A
fits path (Some x) = Ok x
fits path None = Err (BadValue path)

-- the value of a key that has to be there
abbrev pub required_value : {A : Type 0} → List ℕ → (Data → Option A) → Option Data → Meaning A
required_value path column None = Err (Missing path)
required_value path column (Some d) = fits path (column d)

-- a key that has to be there
abbrev pub required : {A : Type 0} → Place → List ℕ → (Data → Option A) → Meaning A
required at key column = required_value (path at key) column (get_member key at.members)

-- the value of a key, or its default
abbrev pub default_value : {A : Type 0} → List ℕ → (Data → Option A) → A → Option Data → Meaning A
default_value path column default None = Ok default
default_value path column default (Some d) = fits path (column d)

-- a key that stands for a default where it is absent
abbrev pub defaulted : {A : Type 0} → Place → List ℕ → (Data → Option A) → A → Meaning A
defaulted at key column default = default_value (path at key) column default (get_member key at.members)

-- the value of a key, where it is there
abbrev pub optional_value : {A : Type 0} → List ℕ → (Data → Option A) → Option Data → Meaning (Option A)
optional_value path column None = Ok None
optional_value path column (Some d) = fits path (column d) >>= λ x. Ok (Some x)

-- a key that may be absent
abbrev pub optional : {A : Type 0} → Place → List ℕ → (Data → Option A) → Meaning (Option A)
optional at key column = optional_value (path at key) column (get_member key at.members)

-- a key that may not be there, whatever its value
abbrev pub absent : Place → List ℕ → Meaning (Unit {0})
absent at key = refuse_if (is_some (get_member key at.members)) (BadValue (path at key))

-- ---- all keys of a table

-- the keys of a table are among these
abbrev pub all_known : List (List ℕ) → Members → Bool
all_known keys no_members = true
all_known keys (member k d ms) = list_any (pointwise nat_eq k) keys && all_known keys ms

-- no other key than these
abbrev pub only : Place → List (List ℕ) → Meaning (Unit {0})
only at keys = if all_known keys at.members then Ok tt else Err (BadValue (path at (codes "*")))

-- ---- tables and lists under a key

-- the table under a key; an empty one where it is absent
abbrev pub table_value : List ℕ → Option Data → Meaning Members
table_value path None = Ok no_members
table_value path (Some d) = fits path (as_table d)

-- the table under a key, where an absent one counts as empty
abbrev pub subtable : Place → List ℕ → Meaning Place
subtable at key = do
  members ← table_value (path at key) (get_member key at.members)
  Ok (record { prefix = path at key ++ codes "."; members = members })

-- the items of an array as a list
abbrev pub list_of : Items → List Data
list_of no_items = []
list_of (item d ds) = d ∷ list_of ds

-- the list under a key; an empty one where it is absent
abbrev pub items_value : List ℕ → Option Data → Meaning (List Data)
items_value path None = Ok []
items_value path (Some d) = fits path (option_map list_of (as_array d))

-- the items of the list under a key, where an absent one is empty
abbrev pub items : Place → List ℕ → Meaning (List Data)
items at key = items_value (path at key) (get_member key at.members)

-- no more items than the limit
abbrev pub limited : List ℕ → ℕ → List Data → Meaning (List Data)
limited path limit ds = if nat_lt limit (length ds) then Err (OverLimit path) else Ok ds

-- a list of at most so many items, its length asked before its items
abbrev pub limited_items : Place → List ℕ → ℕ → Meaning (List Data)
limited_items at key limit = items at key >>= limited (path at key) limit

-- one item at least
abbrev pub some_items : List ℕ → List Data → Meaning (List Data)
some_items path [] = Err (Missing path)
some_items path (d ∷ ds) = Ok (d ∷ ds)

-- a list of at most so many items, and of one at least
abbrev pub required_items : Place → List ℕ → ℕ → Meaning (List Data)
required_items at key limit = limited_items at key limit >>= some_items (path at key)

-- a list of at most so many items, gathered from an empty one
abbrev pub listed : {L : Type 0} → Place → List ℕ → ℕ → (L → Data → Option L) → L → Meaning L
listed at key limit put empty = limited_items at key limit >>= λ ds. fits (path at key) (gathered put empty ds)

-- ---- lists of tables

-- the name of a table in a list, counted from 1
abbrev pub numbered : List ℕ → ℕ → List ℕ
numbered name k = name ++ codes "." ++ decimal k

-- the name and the number of each of so many tables, with a dot behind either, have so many octets at most
abbrev pub FitNumbers : ℕ → List ℕ → ℕ → Type 0
FitNumbers longest name count = (k : ℕ) → k ≤ count → length name + length (decimal k) + 2 ≤ longest

-- a table in a list
abbrev pub row_place : List ℕ → ℕ → Data → Meaning Place
row_place name k d = do
  members ← fits (numbered name k) (as_table d)
  Ok (record { prefix = numbered name k ++ codes "."; members = members })

-- the tables of a list, each read behind those before it
abbrev pub each : {A : Type 0} → (List A → Place → Meaning A) → List ℕ → List A → List Data → Meaning (List A)
each row name earlier [] = Ok earlier
each row name earlier (d ∷ ds) = do
  at ← row_place name (length earlier + 1) d
  x ← row earlier at
  each row name (earlier ++ x ∷ []) ds
