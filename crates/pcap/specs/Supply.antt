-- An input of which only so many reads may still be made. It states no standard.
use Rattle.std.specs.Prelude.{◌≡◌, ◌⊎◌, ◌≤◌, ℕ, ◌+◌, ◌-◌, ◌*◌, List, length, Option, IfSome}
use Rattle.std.specs.Io.KnownBytes.{Consumes, prepend_known}
use Rattle.pcap.specs.Record.{longest}
use Rattle.pcap.specs.Counts.{GoesOnBy}

-- the octets that the input has left, where it tells them, its counts of reads and of failures, how many of the reads
-- found the end, and how many may still be made
pub record Supply : Type 0 where
  pub rest : Option (List ℕ)
  pub calls : ℕ
  pub failures : ℕ
  pub ends : ℕ
  pub reads : ℕ

-- an input that so many reads may be made of, with its octets and its counts: no read found the end yet
abbrev pub untouched : Option (List ℕ) → ℕ → ℕ → ℕ → Supply
untouched rest calls failures reads = record { rest = rest; calls = calls; failures = failures; ends = 0; reads = reads }

-- the same input, with octets that were read ahead in front of what it has left
abbrev pub with_ahead : List ℕ → Supply → Supply
with_ahead octets s = record s { rest = prepend_known octets s.rest }

-- how many octets may still come: those that were read ahead, and 262,144 by each read that may still be made
abbrev pub most_of : List ℕ → ℕ → ℕ
most_of ahead reads = length ahead + reads * longest

-- as many reads were made of the input as there are fewer left
pub record Spends (old new : Supply) : Type 0 where
  pub fewer : new.reads ≤ old.reads
  pub calls : GoesOnBy (old.reads - new.reads) old.calls new.calls

-- a read failed, or none was left
abbrev pub GivesUp : Supply → Supply → Type 0
GivesUp old new = GoesOnBy 1 old.failures new.failures ⊎ ((new.failures ≡ old.failures) × (new.reads ≡ 0))

-- no read failed or found the end, and none is left: those that were made took some octets behind the so many that were
-- read ahead, at least one each, and all of these are too few
pub record RunsOut (IsShort : List ℕ → Type 0) (ahead : ℕ) (old new : Supply) : Type 0 where
  pub quiet : new.failures ≡ old.failures
  pub no_end : new.ends ≡ old.ends
  pub none_left : new.reads ≡ 0
  pub taken : List ℕ
  pub consumed : Consumes old.rest new.rest taken
  pub one_each : old.reads + ahead ≤ length taken
  pub short : IsShort taken

-- a read failed, or one more was needed than were left
abbrev pub StopsShort : (List ℕ → Type 0) → ℕ → Supply → Supply → Type 0
StopsShort IsShort ahead old new = GoesOnBy 1 old.failures new.failures ⊎ RunsOut IsShort ahead old new

-- where the input tells its octets, each read took at least one of them
abbrev pub TakesOneEach : Supply → Supply → Type 0
TakesOneEach old new = IfSome old.rest (λ text. IfSome new.rest (λ rest. old.reads + length rest ≤ new.reads + length text))

-- the same of each read but one
abbrev pub IsThrifty : Supply → Supply → Type 0
IsThrifty old new = IfSome old.rest (λ text. IfSome new.rest (λ rest. old.reads + length rest ≤ new.reads + length text + 1))
