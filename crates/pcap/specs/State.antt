-- What the fields of a source mean. It states no standard.
use Rattle.std.specs.Prelude.{◌<◌, ◌≤◌, ◌^◌, ℕ, List, length, Option, Some, None, ⊤}
use Rattle.pcap.specs.Record.{Record, last_moment, longest}
use Rattle.pcap.specs.Source.{Standing, New, Open, Ended, Failed}
use Rattle.pcap.specs.declared.stream.fetch.Fetched.{Fetched}
use Rattle.pcap.specs.declared.stream.fetch.State.{State}
use Rattle.pcap.specs.declared.stream.fetch.State.TheVariants as state

-- the record of these octets
abbrev pub record_of : List ℕ → Fetched → Record
record_of octets fetched = record {
  moment = fetched.moment;
  original = fetched.original;
  octets = octets;
}

-- the record that is lent, of the octets that were taken last
abbrev pub last_of : List ℕ → Option Fetched → Option Record
last_of octets None = None
last_of octets (Some fetched) = Some (record_of octets fetched)

-- how a source stands by its state and the octets that were taken last
abbrev pub standing_of : State → List ℕ → Standing
standing_of state.New octets = New
standing_of (state.Open style last) octets = Open style (last_of octets last)
standing_of (state.Ended is_cut) octets = Ended is_cut
standing_of (state.Failed fault) octets = Failed fault

-- what a record that is lent keeps to
pub record IsHeld (fetched : Fetched) (octets : List ℕ) : Type 0 where
  pub moment : fetched.moment ≤ last_moment
  pub original : fetched.original < 2 ^ 32
  pub captured : length octets ≤ longest

-- the record that is lent is held whole
abbrev pub IsLastHeld : Option Fetched → List ℕ → Type 0
IsLastHeld None octets = ⊤
IsLastHeld (Some fetched) octets = IsHeld fetched octets

-- and so a state is sound
abbrev pub IsSound : State → List ℕ → Type 0
IsSound state.New octets = ⊤
IsSound (state.Open style last) octets = IsLastHeld last octets
IsSound (state.Ended is_cut) octets = ⊤
IsSound (state.Failed fault) octets = ⊤
