-- An input that is read ahead, and what was taken of it last. It serves proofs.
use Rattle.std.specs.Prelude.{◌≤◌, ℕ, List, length}
use Rattle.pcap.specs.Record.{longest}
use Rattle.pcap.specs.Supply.{Supply, most_of, with_ahead}

-- an input, the octets that were read ahead of it, and those that were taken last
pub record Ahead : Type 0 where
  pub input : Supply
  pub ahead : List ℕ
  pub taken : List ℕ

-- the input with what is ahead in front
abbrev pub left_of : Ahead → Supply
left_of a = with_ahead a.ahead a.input

-- how many octets may still come
abbrev pub most_in : Ahead → ℕ
most_in a = most_of a.ahead a.input.reads

-- what was taken, and what is ahead behind it, lie one behind the other in the room, for which enough is reserved
pub record LiesIn (room : List ℕ) (capacity start from to : ℕ) : Type 0 where
  pub reserved : longest ≤ capacity
  pub size : length room ≤ longest
  pub taken : start ≤ from
  pub ahead : from ≤ to
  pub fits : to ≤ length room
