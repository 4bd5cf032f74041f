-- Where the first record stands that is near one that was sent alone. It serves the contracts.
use Rattle.std.specs.Prelude.{◌≡◌, ◌<◌, ℕ, List, length, slice_index_or, Option, Some, None}
use Rattle.record_match.specs.Match.{Record}
use Rattle.capture_compare.specs.Near.{Alone, near_by}
use Rattle.capture_compare.specs.declared.lonely.difference.Difference.{Difference}
use Rattle.capture_compare.specs.declared.lonely.segment.Reading.{Reading}

-- the one at an index, or else a record of no number
abbrev pub alone_at : Record → List Alone → ℕ → Alone
alone_at r held k = slice_index_or held k (record { number = 0; seen = r })

-- the one at an index is near, and none before it
pub record IsFirstNear (reading : Reading) (within : ℕ) (sent : Record) (held : List Alone) (i : ℕ) (d : Difference) : Type 0 where
  pub inside : i < length held
  pub before : (k : ℕ) → k < i → near_by reading within sent (alone_at sent held k).seen ≡ None
  pub here : near_by reading within sent (alone_at sent held i).seen ≡ Some d

-- where it stands and what of it differs, or that none is near
abbrev pub FindsNear : Reading → ℕ → Record → List Alone → Option (ℕ × Difference) → Type 0
FindsNear reading within sent held (Some p) = IsFirstNear reading within sent held p.0 p.1
FindsNear reading within sent held None = (k : ℕ) → k < length held → near_by reading within sent (alone_at sent held k).seen ≡ None
