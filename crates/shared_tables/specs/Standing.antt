-- Segments that come, go and get other limits, as the pool keeps them. It serves proofs.
use Rattle.std.specs.Prelude.{◌≡◌, ℕ, true, false, List, Option, Some, None}
use Rattle.filter_db.specs.Segment.{Segment}
use Rattle.shared_tables.specs.declared.share.Share.{Share}
use Rattle.shared_tables.specs.Pool.{Held, entry_at}
use Rattle.shared_tables.specs.Shared.{Shared, line_key, vid_key, DropsAll}

-- 1 where there is a share
abbrev pub one_there : Option Share → ℕ
one_there None = 0
one_there (Some share) = 1

-- no entry of the segment is fixed
abbrev pub NoneFixed : List (Option Held) → ℕ → Type 0
NoneFixed entries vid = (i : ℕ) → line_key vid true (entry_at entries i) ≡ false

-- a slot holds a fixed entry of the segment
abbrev pub IsFixedOf : List (Option Held) → ℕ → ℕ → Type 0
IsFixedOf entries vid slot = line_key vid true (entry_at entries slot) ≡ true

-- all entries of a segment have gone
abbrev pub Empties : Shared → Shared → ℕ → Type 0
Empties old new vid = DropsAll old new (vid_key vid)

-- a segment with another limit
abbrev pub with_limit : ℕ → Segment → Segment
with_limit limit s = record s { limit = limit }
