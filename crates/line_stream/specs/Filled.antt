-- What a room holds when a line was read into it; it serves the contracts of the reader's parts.
use Rattle.std.specs.Prelude.{◌≡◌, ◌≢◌, ◌<◌, ◌≤◌, ℕ, List, ◌++◌, length, take, drop, slice_index, Option, Some, IfSome, Result, Ok, Err}
use Rattle.std.specs.Io.KnownBytes.{prepend_known}
use Rattle.pcap.specs.Counts.{GoesOnBy}
use Rattle.line_stream.specs.Lines.{IsLong, behind_line, first_line, longest_line}
use Rattle.line_stream.specs.declared.fault.LinesFault.{LinesFault}
use Rattle.line_stream.specs.declared.fault.LinesFault.TheVariants.{Read, TooLong}
use Rattle.line_stream.specs.declared.fill.Ends.{Ends}
use Rattle.line_stream.specs.declared.fill.Lent.{Lent}

-- a line lies in the room, and behind it what else was read; enough is reserved for the longest line
pub record LiesIn (room : List ℕ) (capacity : ℕ) (lent : Lent) : Type 0 where
  pub reserved : longest_line ≤ capacity
  pub size : length room ≤ longest_line
  pub begin : lent.begin ≤ lent.end
  pub end : lent.end ≤ lent.read
  pub read : lent.read ≤ length room

-- no line feed stands in it
pub record HasNoEnd (text : List ℕ) : Type 0 where
  pub none : (k : ℕ) → k < length text → slice_index text k ≢ 10

-- its first line ends there, whatever stands behind it
pub record EndsAt (text : List ℕ) (end : ℕ) : Type 0 where
  pub inside : end ≤ length text
  pub first : (more : List ℕ) → first_line (text ++ more) ≡ take end text
  pub behind : (more : List ℕ) → behind_line (text ++ more) ≡ drop end text ++ more

-- the first line stands in front, and behind it what else was read; what was there and what the input had left, and how
-- often it failed, are told first
abbrev pub IsFilled : Option (List ℕ) → ℕ → Option (List ℕ) → ℕ → List ℕ → Result Ends LinesFault → Type 0
IsFilled old failed left failures room (Ok ends) =
    (failures ≡ failed) × IfSome old (λ text. (take ends.line room ≡ first_line text)
    × (prepend_known (drop ends.line (take ends.read room)) left ≡ Some (behind_line text)))
IsFilled old failed left failures room (Err TooLong) = (failures ≡ failed) × IfSome old IsLong
IsFilled old failed left failures room (Err Read) = GoesOnBy 1 failed failures

-- a line that is lent in the room is the first of a text, and behind it stands the rest, with what the input has left
abbrev pub IsNext : Option (List ℕ) → Option (List ℕ) → List ℕ → Lent → Type 0
IsNext old left room lent = IfSome old (λ text. (drop lent.begin (take lent.end room) ≡ first_line text)
    × (prepend_known (drop lent.end (take lent.read room)) left ≡ Some (behind_line text)))

-- the next line is lent; what was there and what the input had left, and how often it failed, are told first
abbrev pub IsLent : Option (List ℕ) → ℕ → Option (List ℕ) → ℕ → List ℕ → Result Lent LinesFault → Type 0
IsLent old failed left failures room (Ok lent) = (failures ≡ failed) × IsNext old left room lent
IsLent old failed left failures room (Err TooLong) = (failures ≡ failed) × IfSome old IsLong
IsLent old failed left failures room (Err Read) = GoesOnBy 1 failed failures
