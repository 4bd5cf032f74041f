-- What contracts see of the tables in one pool. It states no standard.
use Rattle.std.specs.Prelude.{◌≡◌, ℕ, ◌⊎◌, ◌+◌, ◌<◌, ◌≤◌, Bool, true, false, ◌&&◌, not, List, length}
use Rattle.std.specs.Prelude.{Option, Some, None, nat_eq, is_none, slice_index_or, slice_set, if◌then◌else◌}
use Rattle.std.specs.List.{sum_by}
use Rattle.std.specs.Option.{option_map}
use Rattle.shared_tables.specs.Pool.{Held}
use Rattle.shared_tables.specs.Pool.{entry_at, IfHeld, bucket_in, tree_in, is_dead_in, is_fixed_in, renewed}
use Rattle.filter_db.specs.declared.tables.Learned.{Learned}
use Rattle.filter_db.specs.declared.tables.Learned.TheVariants as learned
use Rattle.filter_db.specs.declared.place.Place.{Place}
use Rattle.filter_db.specs.Place.{same_place}
use Rattle.filter_db.specs.Table.{nanoseconds}
use Rattle.shared_tables.specs.Line.{weight}

-- the rule of a segment: its limit, and its ageing in seconds
pub record Rule : Type 0 where
  pub limit : ℕ
  pub ageing : ℕ

-- the entries of all slots, the rules by VID, the moment, and the counts
pub record Shared : Type 0 where
  pub entries : List (Option Held)
  pub rules : List (Option Rule)
  pub moment : ℕ
  pub calls : ℕ
  pub compared : ℕ
  pub visited : ℕ

-- the rule of a segment
abbrev pub rule_at : List (Option Rule) → ℕ → Option Rule
rule_at rules vid = slice_index_or rules vid None

-- a slot holds an entry of the segment
abbrev pub vid_key : ℕ → Option Held → Bool
vid_key vid None = false
vid_key vid (Some e) = nat_eq e.vid vid

-- it holds an entry of the bucket
abbrev pub bucket_key : ℕ → Option Held → Bool
bucket_key bucket None = false
bucket_key bucket (Some e) = nat_eq (bucket_in (Some e)) bucket

-- it holds an entry of the tree
abbrev pub tree_key : ℕ → Option Held → Bool
tree_key tree None = false
tree_key tree (Some e) = nat_eq (tree_in (Some e)) tree

-- both, or neither
abbrev pub same_bool : Bool → Bool → Bool
same_bool true b = b
same_bool false b = not b

-- it holds a fixed entry of the segment, or a learned one
abbrev pub line_key : ℕ → Bool → Option Held → Bool
line_key vid fixed None = false
line_key vid fixed (Some e) = nat_eq e.vid vid && same_bool fixed (is_none e.last)

-- no slot holds the address in the segment
abbrev pub Lacks : List (Option Held) → ℕ → List ℕ → Type 0
Lacks entries vid mac = (i : ℕ) → IfHeld (entry_at entries i) vid mac → ⊥

-- how many entries of the segment are kept, dead ones included
abbrev pub kept_count : ℕ → List (Option Held) → ℕ
kept_count vid entries = sum_by (weight (vid_key vid)) entries

-- how many are kept in a bucket
abbrev pub bucket_count : ℕ → List (Option Held) → ℕ
bucket_count bucket entries = sum_by (weight (bucket_key bucket)) entries

-- the moment when an entry was last seen
abbrev pub last_seen : Option ℕ → ℕ
last_seen None = 0
last_seen (Some last) = last

-- the same of what a slot holds
abbrev pub last_in_entry : Option Held → ℕ
last_in_entry None = 0
last_in_entry (Some e) = last_seen e.last

-- and of a slot
abbrev pub last_at : List (Option Held) → ℕ → ℕ
last_at entries slot = last_in_entry (entry_at entries slot)

-- an entry may be written now: it is fixed, or was seen at this moment
abbrev pub IsNow : Option ℕ → ℕ → Type 0
IsNow None moment = Unit {0}
IsNow (Some last) moment = last ≡ moment

-- the segment may keep one more
abbrev pub HasRoom : Option Rule → ℕ → Type 0
HasRoom None count = ⊥
HasRoom (Some rule) count = count < rule.limit

-- a free slot takes the entry, and nothing else changes
pub record Enters (old new : Shared) (e : Held) : Type 0 where
  pub slot : ℕ
  pub in_pool : slot < length old.entries
  pub free : entry_at old.entries slot ≡ None
  pub same : new ≡ record old { entries = slice_set old.entries slot (Some e) }

-- the slot holds an entry of the segment
abbrev pub IsOf : Option Held → ℕ → Type 0
IsOf None vid = ⊥
IsOf (Some e) vid = e.vid ≡ vid

-- the ageing of a rule, in nanoseconds
abbrev pub span_of : Option Rule → ℕ
span_of None = 0
span_of (Some rule) = nanoseconds rule.ageing

-- each entry of the segment is fixed
abbrev pub NoneAges : List (Option Held) → ℕ → Type 0
NoneAges entries vid = (i : ℕ) → line_key vid false (entry_at entries i) ≡ false

-- no entry of the segment that ages was last seen before this one
pub record IsOldest (entries : List (Option Held)) (vid slot : ℕ) : Type 0 where
  pub ages : line_key vid false (entry_at entries slot) ≡ true
  pub first : (j : ℕ) → line_key vid false (entry_at entries j) ≡ true → last_at entries slot ≤ last_at entries j

-- a slot holds an entry
abbrev pub is_held : Option Held → Bool
is_held None = false
is_held (Some e) = true

-- how many entries are kept in all, dead ones included
abbrev pub held_count : List (Option Held) → ℕ
held_count entries = sum_by (weight is_held) entries

-- a slot keeps its entry, or lets a dead one of the segment go
abbrev pub KeepsOrFrees : Option Held → Option Held → ℕ → ℕ → ℕ → Type 0
KeepsOrFrees old new vid ageing now = (new ≡ old)
    ⊎ ((new ≡ None) × (line_key vid false old ≡ true) × (is_dead_in old ageing now ≡ true))

-- all dead entries of the segment have gone, for one visit more than have gone
pub record Sweeps (old new : Shared) (vid ageing : ℕ) : Type 0 where
  pub same : new ≡ record old { entries = new.entries; visited = new.visited }
  pub size : length new.entries ≡ length old.entries
  pub each : (i : ℕ) → KeepsOrFrees (entry_at old.entries i) (entry_at new.entries i) vid ageing old.moment
  pub live : (i : ℕ) → line_key vid false (entry_at new.entries i) ≡ true
      → is_dead_in (entry_at new.entries i) ageing old.moment ≡ false
  pub paid : new.visited + held_count new.entries ≤ old.visited + held_count old.entries + 1
  pub counted : old.visited ≤ new.visited

-- a slot's entry gets another place and another last moment, and nothing else changes
abbrev pub Refreshes : Shared → Shared → ℕ → Place → Option ℕ → Type 0
Refreshes old new slot place last =
    new ≡ record old { entries = slice_set old.entries slot (renewed (entry_at old.entries slot) place last) }

-- the segment is at its limit
abbrev pub IsAtLimit : Option Rule → ℕ → Type 0
IsAtLimit None count = Unit {0}
IsAtLimit (Some rule) count = rule.limit ≤ count

-- Dead entries of the segment go, and then the entry comes, if there is room for it.
pub record Admits (old new : Shared) (vid ageing : ℕ) (e : Held) (answer : Bool) : Type 0 where
  pub mid : Shared
  pub swept : Sweeps old mid vid ageing
  pub done : ((answer ≡ false) × (new ≡ mid) × IsAtLimit (rule_at mid.rules vid) (kept_count vid mid.entries))
      ⊎ ((answer ≡ true) × HasRoom (rule_at mid.rules vid) (kept_count vid mid.entries) × Enters mid new e)

-- what a slot's entry that ages gives as the answer, for another place
abbrev pub answer_of : Option Held → ℕ → ℕ → Place → Learned
answer_of None ageing now place = learned.New
answer_of (Some e) ageing now place =
    if is_dead_in (Some e) ageing now then learned.New else if same_place e.place place then learned.Refreshed else learned.Moved

-- A fixed entry stays. One that ages moves to the place, or is seen there again.
pub record Relearns (old new : Shared) (slot ageing : ℕ) (place : Place) (answer : Learned) : Type 0 where
  pub stays : is_fixed_in (entry_at old.entries slot) ≡ true → (answer ≡ learned.Fixed) × (new ≡ old)
  pub moves : is_fixed_in (entry_at old.entries slot) ≡ false
      → Refreshes (record old { visited = old.visited + 1 }) new slot place (Some old.moment)
  pub answers : is_fixed_in (entry_at old.entries slot) ≡ false
      → answer ≡ answer_of (entry_at old.entries slot) ageing old.moment place

-- where a slot's entry stands, if it is live
abbrev pub live_place : Option Held → ℕ → ℕ → Option Place
live_place None ageing now = None
live_place (Some e) ageing now = if is_dead_in (Some e) ageing now then None else Some e.place

-- a slot's entry stands at a place
abbrev pub stands_at : Place → Option Held → Bool
stands_at place None = false
stands_at place (Some e) = same_place e.place place

-- the rules with another ageing of a segment
abbrev pub with_ageing : List (Option Rule) → ℕ → ℕ → List (Option Rule)
with_ageing rules vid seconds = slice_set rules vid (option_map (λ (rule : Rule). record rule { ageing = seconds }) (rule_at rules vid))

-- a slot keeps its entry, or lets one go that passes a test
abbrev pub KeepsOrDrops : (Option Held → Bool) → Option Held → Option Held → Type 0
KeepsOrDrops test old new = (new ≡ old) ⊎ ((new ≡ None) × (test old ≡ true))

-- entries that pass a test have gone
pub record Drops (old new : Shared) (test : Option Held → Bool) : Type 0 where
  pub same : new ≡ record old { entries = new.entries }
  pub size : length new.entries ≡ length old.entries
  pub each : (i : ℕ) → KeepsOrDrops test (entry_at old.entries i) (entry_at new.entries i)

-- all entries that pass a test have gone
pub record DropsAll (old new : Shared) (test : Option Held → Bool) : Type 0 where
  pub some : Drops old new test
  pub all : (i : ℕ) → test (entry_at new.entries i) ≡ false

-- all learned entries of a segment have gone
abbrev pub Flushes : Shared → Shared → ℕ → Type 0
Flushes old new vid = DropsAll old new (line_key vid false)

-- all learned entries of a segment that stand at a place have gone
abbrev pub DropsPlace : Shared → Shared → ℕ → Place → Type 0
DropsPlace old new vid place = DropsAll old new (λ e. line_key vid false e && stands_at place e)

-- no two slots hold the same address of one segment
abbrev pub IsUnique : List (Option Held) → Type 0
IsUnique entries = (i j : ℕ) (e f : Held) → entry_at entries i ≡ Some e
    → entry_at entries j ≡ Some f → e.vid ≡ f.vid → e.mac ≡ f.mac → i ≡ j

-- what holds in every state
pub record IsOrderly (s : Shared) : Type 0 where
  pub unique : IsUnique s.entries
  pub some_time : (vid : ℕ) (rule : Rule) → rule_at s.rules vid ≡ Some rule → 0 < rule.ageing
  pub few : (vid : ℕ) (rule : Rule) → rule_at s.rules vid ≡ Some rule → kept_count vid s.entries ≤ rule.limit
