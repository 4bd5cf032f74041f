-- What contracts see of the slots of a pool. It states no standard.
use Rattle.std.specs.Prelude.{◌≡◌, ℕ, Bool, false, List, Option, Some, None, slice_index_or, slice_set, not, is_none, replicate}
use Rattle.std.specs.List.{sum_by}
use Rattle.shared_tables.specs.declared.links.Links.{Links}
use Rattle.shared_tables.specs.declared.links.Side.{Side}
use Rattle.shared_tables.specs.declared.links.Side.TheVariants.{Previous, Next}
use Rattle.filter_db.specs.declared.place.Place.{Place}
use Rattle.filter_db.specs.Place.{no_place}
use Rattle.filter_db.specs.Table.{is_young}
use Rattle.shared_tables.specs.Bucket.{bucket_of, tree_of}

-- an entry: an address of a segment, where it stands, and the last moment at which it was seen there; None where it is
-- fixed
pub record Held : Type 0 where
  pub vid : ℕ
  pub mac : List ℕ
  pub place : Place
  pub last : Option ℕ

-- the slots, column by column: what each holds, and its neighbours on its line; how often an entry's age was told
pub record Pool : Type 0 where
  pub entries : List (Option Held)
  pub lines : List Links
  pub visited : ℕ

-- no neighbours
abbrev pub alone : Links
alone = record { previous = None; next = None }

-- the neighbours with another one on one side
abbrev pub links_with : Side → Links → Option ℕ → Links
links_with Previous own slot = record own { previous = slot }
links_with Next own slot = record own { next = slot }

-- what a slot holds
abbrev pub entry_at : List (Option Held) → ℕ → Option Held
entry_at entries slot = slice_index_or entries slot None

-- the neighbours of a slot
abbrev pub links_at : List Links → ℕ → Links
links_at links slot = slice_index_or links slot alone

-- 1 for a free slot
abbrev pub vacancy : Option Held → ℕ
vacancy None = 1
vacancy (Some e) = 0

-- how many slots are free
abbrev pub free_count : List (Option Held) → ℕ
free_count entries = sum_by vacancy entries

-- the bucket of what a slot holds
abbrev pub bucket_in : Option Held → ℕ
bucket_in None = 0
bucket_in (Some e) = bucket_of e.vid e.mac

-- its tree
abbrev pub tree_in : Option Held → ℕ
tree_in None = 0
tree_in (Some e) = tree_of e.vid e.mac

-- where it stands
abbrev pub place_in : Option Held → Place
place_in None = no_place
place_in (Some e) = e.place

-- a slot holds a fixed entry
abbrev pub is_fixed_in : Option Held → Bool
is_fixed_in None = false
is_fixed_in (Some e) = is_none e.last

-- a slot holds an entry that is dead at a moment, under an ageing in nanoseconds (IEEE 802.1Q, 8.8.3)
abbrev pub is_dead_in : Option Held → ℕ → ℕ → Bool
is_dead_in None ageing now = false
is_dead_in (Some e) ageing now = not (is_young ageing now e.last)

-- it holds this address of this segment
abbrev pub IfHeld : Option Held → ℕ → List ℕ → Type 0
IfHeld None vid mac = ⊥
IfHeld (Some e) vid mac = (e.vid ≡ vid) × (e.mac ≡ mac)

-- an entry with another place and another last moment
abbrev pub renewed : Option Held → Place → Option ℕ → Option Held
renewed None place last = None
renewed (Some e) place last = Some (record e { place = place; last = last })

-- an entry with another address
abbrev pub readdressed : Option Held → ℕ → List ℕ → Option Held
readdressed None vid mac = None
readdressed (Some e) vid mac = Some (record e { vid = vid; mac = mac })

-- a pool where a slot holds an entry, and stands on no line yet
abbrev pub taken : Pool → ℕ → Held → Pool
taken pool slot e = record pool {
  entries = slice_set pool.entries slot (Some e);
  lines = slice_set pool.lines slot alone;
}

-- a pool where a slot is free
abbrev pub freed : Pool → ℕ → Pool
freed pool slot = record pool {
  entries = slice_set pool.entries slot None;
  lines = slice_set pool.lines slot alone;
}

-- a pool of free slots
abbrev pub free_pool : ℕ → Pool
free_pool size = record {
  entries = replicate size None;
  lines = replicate size alone;
  visited = 0;
}
