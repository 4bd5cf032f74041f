-- Objects as they are written to an output. It states no standard.
--     Told, Tells      what an output was told, and a text more
--     Stage, Grows      the same with what stands in a line and was not told yet
use Rattle.std.specs.Prelude.{◌≡◌, ℕ, Bool, List, ◌++◌, Option, MatchBool}
use Rattle.std.specs.Io.KnownBytes.{Appends}
use Rattle.pcap.specs.Counts.{GoesOnBy}
use Rattle.pcap.specs.Sink.{AppendsPart}

-- ---- an output

-- what was written to an output, where it tells that, how often it failed or took nothing, and whether such a fault came
pub record Told : Type 0 where
  pub written : Option (List ℕ)
  pub failures : ℕ
  pub is_failed : Bool

-- a text was written; or a part of it, where the output failed at it; and nothing where it had failed before
abbrev pub Tells : Told → Told → List ℕ → Type 0
Tells old new text =
    MatchBool old.is_failed (new ≡ old)
    (MatchBool new.is_failed (GoesOnBy 1 old.failures new.failures × AppendsPart old.written new.written text)
    ((new.failures ≡ old.failures) × Appends old.written new.written text))

-- ---- and a line in front of it

-- an output, and a text that isn't written yet
pub record Stage : Type 0 where
  pub told : Told
  pub line : List ℕ

-- a text more was written or stands in the line, behind what stood there; or the output failed at a part of that
abbrev pub Grows : Stage → Stage → List ℕ → Type 0
Grows old new text =
    MatchBool old.told.is_failed (new.told ≡ old.told)
    (MatchBool new.told.is_failed
    (GoesOnBy 1 old.told.failures new.told.failures × AppendsPart old.told.written new.told.written (old.line ++ text))
    ((new.told.failures ≡ old.told.failures)
    × ((gone : List ℕ) × Appends old.told.written new.told.written gone × (gone ++ new.line ≡ old.line ++ text))))
