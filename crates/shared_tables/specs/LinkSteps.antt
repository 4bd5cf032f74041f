-- What the steps on a line do to the slots' links. It serves proofs.
use Rattle.std.specs.Prelude.{◌≡◌, ℕ, ◌<◌, List, length, Option, Some, None, IsSome, IfSome, slice_set, is_none, if◌then◌else◌}
use Rattle.shared_tables.specs.declared.links.Links.{Links}
use Rattle.shared_tables.specs.declared.links.Side.{Side}
use Rattle.shared_tables.specs.declared.links.Side.TheVariants.{Previous, Next}
use Rattle.shared_tables.specs.Pool.{Held}
use Rattle.filter_db.specs.declared.place.Place.{Place}
use Rattle.shared_tables.specs.declared.threads.Ends.{Ends}
use Rattle.shared_tables.specs.Pool.{Pool, links_at, links_with, entry_at, alone, renewed}

-- a slot of the pool that holds an entry
pub record IsHeld (entries : List (Option Held)) (slot : ℕ) : Type 0 where
  pub in_pool : slot < length entries
  pub held : IsSome (entry_at entries slot)

-- the slot, where there is one, holds an entry
abbrev pub HoldsAny : List (Option Held) → Option ℕ → Type 0
HoldsAny entries slot = IfSome slot (IsHeld entries)

-- the slot, where there is one, has another neighbour on one side
abbrev pub link_set : Side → List Links → Option ℕ → Option ℕ → List Links
link_set side links None other = links
link_set side links (Some slot) other = slice_set links slot (links_with side (links_at links slot) other)

-- it has another next one
abbrev pub next_set : List Links → Option ℕ → Option ℕ → List Links
next_set = link_set Next

-- it has another previous one
abbrev pub previous_set : List Links → Option ℕ → Option ℕ → List Links
previous_set = link_set Previous

-- without a slot: its neighbours are each other's
abbrev pub unlinked : List Links → ℕ → List Links
unlinked links slot =
    let own = links_at links slot in
    previous_set (next_set links own.previous own.next) own.next own.previous

-- with a slot behind the last
abbrev pub pushed_back : List Links → Option ℕ → ℕ → List Links
pushed_back links last slot = next_set (slice_set links slot (record { previous = last; next = None })) last (Some slot)

-- both ends are there, or neither is
abbrev pub AreEnds : Ends → Type 0
AreEnds ends = is_none ends.first ≡ is_none ends.last

-- the ends when a slot has another neighbour on one side: where there is no slot, another next one is the first, and
-- another previous one is the last
abbrev pub ends_set : Side → Ends → Option ℕ → Option ℕ → Ends
ends_set Previous ends slot other = record ends { last = if is_none slot then other else ends.last }
ends_set Next ends slot other = record ends { first = if is_none slot then other else ends.first }

-- the ends without a slot that had these neighbours
abbrev pub ends_without : Ends → Links → Ends
ends_without ends own = record {
  first = if is_none own.previous then own.next else ends.first;
  last = if is_none own.next then own.previous else ends.last;
}

-- the ends with a slot behind the last
abbrev pub ends_with : Ends → ℕ → Ends
ends_with ends slot = record {
  first = if is_none ends.first then Some slot else ends.first;
  last = Some slot;
}

-- a pool where a slot has left its line, and is free
abbrev pub dropped : Pool → ℕ → Pool
dropped pool slot = record pool {
  entries = slice_set pool.entries slot None;
  lines = slice_set (unlinked pool.lines slot) slot alone;
}

-- a pool where a slot's entry has another place and another last moment, and stands behind the last of a line
abbrev pub moved : Pool → ℕ → Place → Option ℕ → Option ℕ → Pool
moved pool slot place last behind = record pool {
  entries = slice_set pool.entries slot (renewed (entry_at pool.entries slot) place last);
  lines = pushed_back (unlinked pool.lines slot) behind slot;
}
