-- Whose event comes next. It states no standard.
--     Turn      where a source of events stands: how many of its events came, and the moment of the next one
use Rattle.std.specs.Prelude.{◌≡◌, ◌<◌, ◌≤◌, ◌-◌, ◌^◌, ◌⊎◌, ⊤, ℕ, List, slice_index_or, Option, Some, None}
use Rattle.pcap.specs.Record.{last_moment}
use Rattle.stream_run.specs.declared.part.Next.{Next}
use Rattle.stream_run.specs.declared.turn.First.{First}
use Rattle.stream_run.specs.declared.turn.Turn.{Turn}

-- there is no event at this moment or before it; none before it
abbrev pub IsLater : ℕ → Option ℕ → Type 0
IsLater m None = ⊤
IsLater m (Some n) = m < n

-- a moment is no later than the next one of a source
abbrev pub IsNoSooner : ℕ → Option ℕ → Type 0
IsNoSooner m None = ⊤
IsNoSooner m (Some n) = m ≤ n

-- the first of the next events of so many sources: no other comes before it, and those of the sources in front come later
pub record IsFirst (turns : List Turn) (count : ℕ) (first : First) : Type 0 where
  pub there : first.index < count
  pub next : (t : Turn) → (slice_index_or turns first.index t).next ≡ Some first.moment
  pub later : (t : Turn) (k : ℕ) → k < first.index → IsLater first.moment (slice_index_or turns k t).next
  pub no_sooner : (t : Turn) (k : ℕ) → k < count → IsNoSooner first.moment (slice_index_or turns k t).next

-- the event that comes next of a source, as one that comes first
abbrev pub first_of : Next → First
first_of next = record { index = next.index; moment = next.moment }

-- it was found, or there is none
abbrev pub FindsFirst : List Turn → ℕ → Option First → Type 0
FindsFirst turns count None = (t : Turn) (k : ℕ) → k < count → (slice_index_or turns k t).next ≡ None
FindsFirst turns count (Some first) = IsFirst turns count first

-- as it is found one source after another: until an event is found it stands at a moment that no event has
abbrev pub IsFirstSoFar : List Turn → ℕ → First → Type 0
IsFirstSoFar turns count first = ((first.moment ≡ 2 ^ 64 - 1) × FindsFirst turns count None)
    ⊎ ((first.moment ≤ last_moment) × IsFirst turns count first)
