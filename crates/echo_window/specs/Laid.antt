-- How a window keeps frames: their octets one behind the other in one row. It serves proofs.
use Rattle.std.specs.Prelude.{◌≡◌, ◌≤◌, ℕ, ◌+◌, nat_lt, Bool, false, List, [], ◌∷◌, drop, length, take}
use Rattle.echo_window.specs.Echo.{Arrival, Record}
use Rattle.echo_window.specs.declared.kept.Kept.{Kept}
use Rattle.echo_window.specs.declared.record.Record.{Record as Told}

-- what a record tells
abbrev pub told : Told → Record
told r = record { place = r.place; number = r.number; moment = r.moment; frame = r.frame.now; awaited = r.awaited.now }

-- a frame with its octets
abbrev pub came_of : Kept → List ℕ → Arrival
came_of k frame = record { place = k.place; number = k.number; moment = k.moment; frame = frame; awaited = k.awaited }

-- how many octets frames have together
abbrev pub lengths : List Kept → ℕ
lengths [] = 0
lengths (k ∷ ks) = k.length + lengths ks

-- frames with their octets, which stand in one row
abbrev pub laid : List Kept → List ℕ → List Arrival
laid [] row = []
laid (k ∷ ks) row = came_of k (take k.length row) ∷ laid ks (drop k.length row)

-- the row has the octets of the frames and no others; there is room for all that may be kept
pub record IsLaid (ks : List Kept) (row : List ℕ) (capacity : ℕ) : Type 0 where
  pub whole : lengths ks ≡ length row
  pub few : length ks ≤ 4096
  pub small : length row ≤ 4194304
  pub reserved : 4096 ≤ capacity

-- the first of some frames came in more than so many nanoseconds before a moment
abbrev pub begins_past : ℕ → ℕ → List Arrival → Bool
begins_past within moment [] = false
begins_past within moment (c ∷ came) = nat_lt (c.moment + within) moment
