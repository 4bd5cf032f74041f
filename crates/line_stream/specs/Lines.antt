-- Lines of a text, each with its line feed, and what a call that fetches the next one makes of a text.
-- It states no standard.
use Rattle.std.specs.Prelude.{◌≡◌, ◌≢◌, ◌<◌, ◌≤◌, ℕ, ◌==◌, Bool, true, false, if◌then◌else◌, List, [], ◌∷◌}
use Rattle.std.specs.Prelude.{length, slice_index, Option, Some, IfSome, Result, Ok, Err}
use Rattle.pcap.specs.Counts.{GoesOnBy}
use Rattle.line_stream.specs.declared.fault.LinesFault.{LinesFault}
use Rattle.line_stream.specs.declared.fault.LinesFault.TheVariants.{Read, TooLong}

-- the first line, up to and with its line feed; all of a text that has none
abbrev pub first_line : List ℕ → List ℕ
first_line [] = []
first_line (c ∷ cs) = if c == 10 then c ∷ [] else c ∷ first_line cs

-- what stands behind it
abbrev pub behind_line : List ℕ → List ℕ
behind_line [] = []
behind_line (c ∷ cs) = if c == 10 then cs else behind_line cs

-- whether a whole line stands in front of a text: whether it has a line feed
abbrev pub has_line : List ℕ → Bool
has_line [] = false
has_line (c ∷ cs) = if c == 10 then true else has_line cs

-- the octets of a line at most
abbrev pub longest_line : ℕ
longest_line = 131072

-- no line feed stands in the octets that a line has at most
pub record IsLong (text : List ℕ) : Type 0 where
  pub long : longest_line ≤ length text
  pub none : (k : ℕ) → k < longest_line → slice_index text k ≢ 10

-- the line that is lent, the octets behind it that were read ahead, what stands behind it where the input tells its octets, and how
-- often the input failed
pub record Reader : Type 0 where
  pub line : List ℕ
  pub ahead : List ℕ
  pub rest : Option (List ℕ)
  pub failures : ℕ

-- whether the next line was read ahead whole, so that it takes no read
abbrev pub holds_line : Reader → Bool
holds_line s = has_line s.ahead

-- the next line is lent, or at the end nothing; or it is too long, or a read failed
abbrev pub IsFetched : Reader → Reader → Result (Unit {0}) LinesFault → Type 0
IsFetched old new (Ok x) = (new.failures ≡ old.failures)
    × IfSome old.rest (λ text. (new.line ≡ first_line text) × (new.rest ≡ Some (behind_line text)))
IsFetched old new (Err TooLong) = (new.failures ≡ old.failures) × IfSome old.rest IsLong
IsFetched old new (Err Read) = GoesOnBy 1 old.failures new.failures
