-- What the slots stand for, and their free list. It serves proofs.
use Rattle.std.specs.Prelude.{◌≡◌, ◌≢◌, ℕ, ◌-◌, ◌<◌, ◌≤◌, List, [], ◌∷◌, ◌++◌, length, map, replicate}
use Rattle.std.specs.Prelude.{Option, Some, None, slice_index_or, is_some, if◌then◌else◌, vec_capacity}
use Rattle.filter_db.specs.declared.place.Place.{Place}
use Rattle.filter_db.specs.Place.{no_place}
use Rattle.shared_tables.specs.declared.slots.Slot.{Slot}
use Rattle.shared_tables.specs.declared.slots.Kind.{Kind}
use Rattle.shared_tables.specs.declared.slots.Kind.TheVariants as kind
use Rattle.shared_tables.specs.declared.links.Links.{Links}
use Rattle.shared_tables.specs.declared.slots.Slots.TheInside.{Inside}
use Rattle.shared_tables.specs.Bucket.{vid_in, mac_in}
use Rattle.shared_tables.specs.Pool.{Pool, Held, free_count, alone}

-- what a slot of a kind holds, by its key, its moment and its place
abbrev pub entry_by : Kind → ℕ → ℕ → Place → Option Held
entry_by kind.Free key last place = None
entry_by kind.Learned key last place = Some (record { vid = vid_in key; mac = mac_in key; place = place; last = Some last })
entry_by kind.Fixed key last place = Some (record { vid = vid_in key; mac = mac_in key; place = place; last = None })

-- what a slot holds
abbrev pub entry_in : Slot → Option Held
entry_in slot = entry_by slot.kind slot.key slot.last slot.place

-- the kind of an entry that was last seen then, and its moment
abbrev pub kind_of : Option ℕ → Kind
kind_of None = kind.Fixed
kind_of (Some last) = kind.Learned

-- the moment as it is kept; 0 for a fixed entry
abbrev pub moment_of : Option ℕ → ℕ
moment_of None = 0
moment_of (Some last) = last

-- a free slot has no neighbours; its place on the free list is nobody's business
abbrev pub line_of : Slot → Links
line_of slot = if is_some (entry_in slot) then slot.line else alone

-- the slots, column by column
abbrev pub pool_with : List Slot → ℕ → Pool
pool_with slots visited = record {
  entries = map entry_in slots;
  lines = map line_of slots;
  visited = visited;
}

-- a slot that stands for none
abbrev pub no_slot : Slot
no_slot = record { key = 0; last = 0; line = alone; place = no_place; kind = kind.Free }

-- the slots of a pool: those that were made, and behind them those that aren't there yet, which are free
abbrev pub all_slots : ℕ → List Slot → List Slot
all_slots size slots = slots ++ replicate (size - length slots) no_slot

-- the value that contracts see
abbrev pub pool_of : Inside → Pool
pool_of a = pool_with (all_slots a.size a.slots.items) a.visited.total

-- the slot isn't on the list
abbrev pub IsAbsent : ℕ → List ℕ → Type 0
IsAbsent i [] = Unit {0}
IsAbsent i (j ∷ is) = (j ≢ i) × IsAbsent i is

-- the free slots from first on are these
abbrev pub IsFreeList : List Slot → Option ℕ → List ℕ → Type 0
IsFreeList slots first [] = first ≡ None
IsFreeList slots first (i ∷ is) =
    (first ≡ Some i) × (i < length slots) × (entry_in (slice_index_or slots i no_slot) ≡ None) × IsAbsent i is
    × IsFreeList slots (slice_index_or slots i no_slot).line.next is

-- the free list has each free slot
pub record IsFreeAll (slots : List Slot) (first : Option ℕ) (is : List ℕ) : Type 0 where
  pub list : IsFreeList slots first is
  pub all : length is ≡ free_count (map entry_in slots)

-- the free ones of the slots that were made are on the free list
abbrev pub HasFreeList : Inside → Type 0
HasFreeList a = (is : List ℕ) × IsFreeAll a.slots.items a.free is

-- so many slots were made, of so many, at most 1,048,576, for which there is room
pub record IsWithin (made size room : ℕ) : Type 0 where
  pub within : made ≤ size
  pub few : size ≤ 1048576
  pub fits : size ≤ room

-- the slots that were made, and their free list
abbrev pub IsStocked : Inside → Type 0
IsStocked a = HasFreeList a × IsWithin (length a.slots.items) a.size (vec_capacity a.slots)
