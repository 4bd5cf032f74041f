-- What a record of a capture tells (pcap-savefile(5)).
use Rattle.std.specs.Prelude.{◌<◌, ◌≤◌, ◌^◌, ℕ, List, length}

-- a moment in nanoseconds, the length of the frame, and the octets of it that were captured
pub record Record : Type 0 where
  pub moment : ℕ
  pub original : ℕ
  pub octets : List ℕ

-- the last moment that a record can tell: 2^32 - 1 seconds and 999,999,999 nanoseconds
abbrev pub last_moment : ℕ
last_moment = 4294967295999999999

-- the octets of a record at most
abbrev pub longest : ℕ
longest = 262144

-- what a record can hold
pub record IsWithinLimits (r : Record) : Type 0 where
  pub moment : r.moment ≤ last_moment
  pub original : r.original < 2 ^ 32
  pub length : length r.octets ≤ longest
